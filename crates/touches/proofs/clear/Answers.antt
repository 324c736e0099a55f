use Rattle.std.proofs.Common.{◌≡◌, ℕ, get_or, length, replicate, inl, inr, refl, ◌∙◌, arith, rules}
use Rattle.std.proofs.lemmas.List.{get_or_past, get_or-replicate, length-replicate}
use Rattle.std.proofs.lemmas.Bool.{cases_lt}
use Rattle.touches.proofs.Whole.{none_kept}
use Rattle.touches.proofs.clear.Goals as goal

zeros : (n z k : ℕ) → z ≡ 0 → get_or (replicate n z) k 0 ≡ 0
zeros n z k e = elim (cases_lt k n) [ inl h ↦ get_or-replicate n k z 0 h ∙ e | inr h ↦ get_or_past (replicate n z) k 0 (omega (arith, length-replicate n z)) ]

pub returns : goal.returns
returns c = λ y. rw (c.fill.ensures.after (search rules)) (none_kept y _ (λ k. zeros (length c.args.words.now) 0 k refl))
