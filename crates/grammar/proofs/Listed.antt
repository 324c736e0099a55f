-- What a word of the language tells of its length and bytes.
use Rattle.std.proofs.Common.{◌≡◌, ℕ, ◌⊎◌, List, length, get_or, ap, inl, inr}
use Rattle.grammar.specs.declared.keywords.Keyword.{Keyword}
use Rattle.grammar.specs.declared.keywords.Keyword.TheVariants.{Own, Cells, Cell, Field, Barrier, If, Else, End, While, Lane, Group, Lanes}
use Rattle.grammar.specs.Runs.{written}

abbrev pub Reads : List ℕ → Type 0
Reads w =
    ((length w ≡ 3) × (get_or w 0 0 ≡ 111) × (get_or w 1 0 ≡ 119) × (get_or w 2 0 ≡ 110)) ⊎ (((length w ≡ 5) × (get_or w 0 0 ≡ 99) × (get_or w 1 0 ≡ 101) × (get_or w 2 0 ≡ 108) × (get_or w 3 0 ≡ 108) × (get_or w 4 0 ≡ 115)) ⊎ (((length w ≡ 4) × (get_or w 0 0 ≡ 99) × (get_or w 1 0 ≡ 101) × (get_or w 2 0 ≡ 108) × (get_or w 3 0 ≡ 108)) ⊎ (((length w ≡ 5) × (get_or w 0 0 ≡ 102) × (get_or w 1 0 ≡ 105) × (get_or w 2 0 ≡ 101) × (get_or w 3 0 ≡ 108) × (get_or w 4 0 ≡ 100)) ⊎ (((length w ≡ 7) × (get_or w 0 0 ≡ 98) × (get_or w 1 0 ≡ 97) × (get_or w 2 0 ≡ 114) × (get_or w 3 0 ≡ 114) × (get_or w 4 0 ≡ 105) × (get_or w 5 0 ≡ 101) × (get_or w 6 0 ≡ 114)) ⊎ (((length w ≡ 2) × (get_or w 0 0 ≡ 105) × (get_or w 1 0 ≡ 102)) ⊎ (((length w ≡ 4) × (get_or w 0 0 ≡ 101) × (get_or w 1 0 ≡ 108) × (get_or w 2 0 ≡ 115) × (get_or w 3 0 ≡ 101)) ⊎ (((length w ≡ 3) × (get_or w 0 0 ≡ 101) × (get_or w 1 0 ≡ 110) × (get_or w 2 0 ≡ 100)) ⊎ (((length w ≡ 5) × (get_or w 0 0 ≡ 119) × (get_or w 1 0 ≡ 104) × (get_or w 2 0 ≡ 105) × (get_or w 3 0 ≡ 108) × (get_or w 4 0 ≡ 101)) ⊎ (((length w ≡ 4) × (get_or w 0 0 ≡ 108) × (get_or w 1 0 ≡ 97) × (get_or w 2 0 ≡ 110) × (get_or w 3 0 ≡ 101)) ⊎ (((length w ≡ 5) × (get_or w 0 0 ≡ 103) × (get_or w 1 0 ≡ 114) × (get_or w 2 0 ≡ 111) × (get_or w 3 0 ≡ 117) × (get_or w 4 0 ≡ 112)) ⊎ (((length w ≡ 5) × (get_or w 0 0 ≡ 108) × (get_or w 1 0 ≡ 97) × (get_or w 2 0 ≡ 110) × (get_or w 3 0 ≡ 101) × (get_or w 4 0 ≡ 115)))))))))))))

pub reads_of : (w : List ℕ) (k : Keyword) → w ≡ written k → Reads w
reads_of w Own e = inl (ap length e, ap (λ v. get_or v 0 0) e, ap (λ v. get_or v 1 0) e, ap (λ v. get_or v 2 0) e)
reads_of w Cells e = inr (inl (ap length e, ap (λ v. get_or v 0 0) e, ap (λ v. get_or v 1 0) e, ap (λ v. get_or v 2 0) e, ap (λ v. get_or v 3 0) e, ap (λ v. get_or v 4 0) e))
reads_of w Cell e = inr (inr (inl (ap length e, ap (λ v. get_or v 0 0) e, ap (λ v. get_or v 1 0) e, ap (λ v. get_or v 2 0) e, ap (λ v. get_or v 3 0) e)))
reads_of w Field e = inr (inr (inr (inl (ap length e, ap (λ v. get_or v 0 0) e, ap (λ v. get_or v 1 0) e, ap (λ v. get_or v 2 0) e, ap (λ v. get_or v 3 0) e, ap (λ v. get_or v 4 0) e))))
reads_of w Barrier e = inr (inr (inr (inr (inl (ap length e, ap (λ v. get_or v 0 0) e, ap (λ v. get_or v 1 0) e, ap (λ v. get_or v 2 0) e, ap (λ v. get_or v 3 0) e, ap (λ v. get_or v 4 0) e, ap (λ v. get_or v 5 0) e, ap (λ v. get_or v 6 0) e)))))
reads_of w If e = inr (inr (inr (inr (inr (inl (ap length e, ap (λ v. get_or v 0 0) e, ap (λ v. get_or v 1 0) e))))))
reads_of w Else e = inr (inr (inr (inr (inr (inr (inl (ap length e, ap (λ v. get_or v 0 0) e, ap (λ v. get_or v 1 0) e, ap (λ v. get_or v 2 0) e, ap (λ v. get_or v 3 0) e)))))))
reads_of w End e = inr (inr (inr (inr (inr (inr (inr (inl (ap length e, ap (λ v. get_or v 0 0) e, ap (λ v. get_or v 1 0) e, ap (λ v. get_or v 2 0) e))))))))
reads_of w While e = inr (inr (inr (inr (inr (inr (inr (inr (inl (ap length e, ap (λ v. get_or v 0 0) e, ap (λ v. get_or v 1 0) e, ap (λ v. get_or v 2 0) e, ap (λ v. get_or v 3 0) e, ap (λ v. get_or v 4 0) e)))))))))
reads_of w Lane e = inr (inr (inr (inr (inr (inr (inr (inr (inr (inl (ap length e, ap (λ v. get_or v 0 0) e, ap (λ v. get_or v 1 0) e, ap (λ v. get_or v 2 0) e, ap (λ v. get_or v 3 0) e))))))))))
reads_of w Group e = inr (inr (inr (inr (inr (inr (inr (inr (inr (inr (inl (ap length e, ap (λ v. get_or v 0 0) e, ap (λ v. get_or v 1 0) e, ap (λ v. get_or v 2 0) e, ap (λ v. get_or v 3 0) e, ap (λ v. get_or v 4 0) e)))))))))))
reads_of w Lanes e = inr (inr (inr (inr (inr (inr (inr (inr (inr (inr (inr ((ap length e, ap (λ v. get_or v 0 0) e, ap (λ v. get_or v 1 0) e, ap (λ v. get_or v 2 0) e, ap (λ v. get_or v 3 0) e, ap (λ v. get_or v 4 0) e))))))))))))
