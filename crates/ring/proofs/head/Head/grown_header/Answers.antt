use Rattle.std.proofs.Common.{inl, inr, arith}
use Rattle.std.proofs.lemmas.Bool.{cases_lt}
use Rattle.ring.proofs.Heads.{head_sound, head_most}
use Rattle.ring.proofs.head.Head.grown_header.Goals as goal

pub overflow_add-last : goal.overflow_add-last
overflow_add-last c =
    let h = c.args.self in
    elim (cases_lt 0 h.header.count) [
      | inl some ↦ omega (arith, head_most h, (head_sound h).to some)
      | inr none ↦ omega (arith, head_most h, (head_sound h).empty (omega arith))
    ]
