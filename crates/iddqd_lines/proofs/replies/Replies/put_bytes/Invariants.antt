use Rattle.std.proofs.Common.{◌≡◌, ◌++◌, take}
use Rattle.iddqd_lines.proofs.replies.Replies.put_bytes.Given as goal

-- the bytes so far were added
abbrev pub invariant-loop-byte : goal.invariant-loop-byte
invariant-loop-byte l = l.self ≡ l.fn.self ++ take l.byte-index l.bytes
