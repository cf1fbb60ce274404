use Rattle.iddqd_lines.proofs.ByteLemmas.{Sends-then, Sends-put, Sends-fails}
use Rattle.iddqd_lines.proofs.replies.Replies.put_reply.Goals as goal

pub returns-in_err-make_room : goal.returns-in_err-make_room
returns-in_err-make_room g c =
    Sends-fails g.O.Sink _ _ _ _ _ _ _ c.from_residual.result c.from_residual.ensures.0 c.in_err-make_room.ensures.sends

pub returns-in_err-put_words : goal.returns-in_err-put_words
returns-in_err-put_words g c =
    Sends-fails g.O.Sink _ _ _ _ _ _ _ c.from_residual-in_err-put_words.result c.from_residual-in_err-put_words.ensures.0
    (Sends-then g.O.Sink _ _ _ _ _ _ _ _ _ c.in_ok-make_room.ensures.sends c.in_err-put_words.ensures.sends)

pub returns : goal.returns
returns g c =
    Sends-then g.O.Sink _ _ _ _ _ _ _ _ _
    (Sends-then g.O.Sink _ _ _ _ _ _ _ _ _ c.in_ok-make_room.ensures.sends c.in_ok-put_words.ensures.sends)
    (Sends-put g.O.Sink _ _ _ _ c.put.ensures.appends)
