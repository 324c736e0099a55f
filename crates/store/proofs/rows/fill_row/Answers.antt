use Rattle.std.proofs.Common.{◌≡◌, ℕ, List, length, get_or, ap, ◌∙◌, arith, rules}
use Rattle.std.proofs.lemmas.List.{get_or-replicate}
use Rattle.store.proofs.Written.{row_written}
use Rattle.store.proofs.rows.fill_row.Goals as goal

pub returns : goal.returns
returns c =
    let e = c.row_place-a.ensures.is in
    let within = c.row_place-a.ensures.within in
    let fit = c.requires.fit in
    let long : length c.fill.new.self ≡ c.args.n = search rules in
    row_written c.args.z c.args.g c.args.s c.args.l _ c.args.n _ _ c.args.lanes.now c.fill.new.self e (omega arith) long (omega arith)
    (λ i h. ap (λ (ys : List ℕ). get_or ys i 0) (c.fill.ensures.after (λ _ x. x)) ∙ get_or-replicate _ i c.args.v 0 (rw c.fill.ensures.len at h))
