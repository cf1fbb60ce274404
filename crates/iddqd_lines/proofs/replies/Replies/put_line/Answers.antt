use Rattle.std.proofs.Common.{◌++◌, ◌∷◌, [], ap, ◌∙◌, append_assoc}
use Rattle.iddqd_lines.specs.Line.{line_feed}
use Rattle.iddqd_lines.proofs.ByteLemmas.{Sends-then, Sends-put, Sends-fails}
use Rattle.iddqd_lines.proofs.replies.Replies.put_line.Goals as goal

pub returns-in_err-make_room : goal.returns-in_err-make_room
returns-in_err-make_room g c =
    Sends-fails g.O.Sink _ _ _ _ _ _ _ c.from_residual.result c.from_residual.ensures.0 c.in_err-make_room.ensures.sends

pub returns : goal.returns
returns g c =
    let text = c.put_bytes-2.ensures.appends ∙ ap (λ bytes. bytes ++ line_feed ∷ []) c.put_bytes.ensures.appends ∙ append_assoc _ c.args.text.now (line_feed ∷ []) in
    Sends-then g.O.Sink _ _ _ _ _ _ _ _ _ c.in_ok-make_room.ensures.sends (Sends-put g.O.Sink _ _ _ _ text)
