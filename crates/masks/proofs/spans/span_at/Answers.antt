use Rattle.std.proofs.Common.{rules, ◌≡◌, ℕ, refl, MatchOption, Option, Some, None}
use Rattle.masks.proofs.Spanning.{none_behind, start-within, spanned}
use Rattle.masks.proofs.spans.span_at.Goals as goal

pub returns-in_err-from : goal.returns-in_err-from
returns-in_err-from c = rw c.from_residual.ensures (none_behind c.args.mask c.args.i c.in_err-from.ensures)

pub overflow_shr-mask-2 : goal.overflow_shr-mask-2
overflow_shr-mask-2 c = start-within c.args.mask c.args.i c.in_ok-from.field-0 c.ranges.mask.fits c.in_ok-from.ensures

called : (r : Option ℕ) (P : Type 0) {Q R : ℕ → Type 0} → ((k : ℕ) → Q k → R k) → MatchOption r P Q → MatchOption r P R
called None P f h = h
called (Some k) P f h = f k h

pub returns : goal.returns
returns c = spanned c.args.mask c.args.i c.in_ok-from.field-0 c.ranges.mask.fits c.in_ok-from.ensures _ c.map_or-to.result refl c.lowest-2.result c.lowest-2.ensures
    (called c.lowest-2.result (c.map_or-to.result ≡ 32) (λ k h. search rules) c.map_or-to.ensures)
