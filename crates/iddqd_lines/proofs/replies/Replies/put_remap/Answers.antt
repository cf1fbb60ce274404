use Rattle.std.proofs.Common.{rules, ◌≡◌, ◌++◌, codes, subst}
use Rattle.std.specs.List.{flat_map}
use Rattle.iddqd_lines.specs.Line.{remap_text}
use Rattle.iddqd_lines.specs.Replies.{Sends, spaced_name}
use Rattle.iddqd_lines.proofs.ByteLemmas.{Sends-put, Sends-then}
use Rattle.iddqd_lines.proofs.replies.Replies.put_remap.Goals as goal

pub returns-in-Permuted-clause-sends : goal.returns-in-Permuted-clause-sends
returns-in-Permuted-clause-sends g c =
    let sent = Sends-then g.O.Sink _ _ _ _ (codes "permuted") _ _ _ _ (Sends-put {E = Unit {0}} g.O.Sink _ _ _ _ c.put_bytes-in-Permuted.ensures.appends) c.put_names.ensures.sends in
    let text : codes "permuted" ++ flat_map spaced_name c.deref.result.now ≡ remap_text c.args.remap.now = search (rules, c.in-Permuted.is, c.deref.ensures.value) in
    subst (λ t. Sends {E = Unit {0}} g.O.Sink c.args.output.now c.args.self.now t c.put_names.result c.put_names.new.output c.put_names.new.self) text sent
