-- Runs of bytes from an index on.
use Rattle.std.proofs.Common.{◌≡◌, ℕ, zero, suc, ◌+◌, ◌-◌, ◌*◌, ◌<◌, min, Bool, true, false, cond, List, [], ◌∷◌, length, get_or, take, drop, sym, refl, ◌∙◌, add-zero, arith, rules}
use Rattle.std.proofs.lemmas.List.{at_drop_more, get_or-drop}
use Rattle.std.proofs.lemmas.List.Recursion.{same_from_clauses}
use Rattle.std.specs.List.{prefix_len}
use Rattle.grammar.specs.Spelling.{digit, decimal}
use Rattle.grammar.specs.Runs.{run_of}

pub run_step : (f : ℕ → Bool) (b : ℕ) (bs : List ℕ) → f b ≡ true → run_of f (b ∷ bs) ≡ suc (run_of f bs)
unfolding run_of
run_step f b bs h = rw h

pub run-stop : (f : ℕ → Bool) (b : ℕ) (bs : List ℕ) → f b ≡ false → run_of f (b ∷ bs) ≡ 0
unfolding run_of
run-stop f b bs h = rw h

pub run_more : (f : ℕ → Bool) (t : List ℕ) (j : ℕ) → j < length t → f (get_or t j 0) ≡ true → j + run_of f (drop j t) ≡ (j + 1) + run_of f (drop (j + 1) t)
run_more f t j lt h =
    let e : run_of f (drop j t) ≡ suc (run_of f (drop (j + 1) t)) = at_drop_more (run_of f) t j 0 lt ∙ run_step f (get_or t j 0) (drop (j + 1) t) h in
    omega (arith, e)

pub run-nil : (f : ℕ → Bool) → run_of f [] ≡ 0
unfolding run_of
run-nil f = refl

run_at : (f : ℕ → Bool) (l : List ℕ) → f (get_or l 0 0) ≡ false → run_of f l ≡ 0
run_at f [] h = run-nil f
run_at f (b ∷ bs) h = run-stop f b bs h

pub run_none : (f : ℕ → Bool) (t : List ℕ) (j : ℕ) → f (get_or t j 0) ≡ false → run_of f (drop j t) ≡ 0
run_none f t j h = run_at f (drop j t) (rw get_or-drop (rw add-zero h))

-- The byte passes the test, so it is not 0: it stands in the text.
pub nonzero : (f : ℕ → Bool) (b : ℕ) → f 0 ≡ false → f b ≡ true → 0 < b
nonzero f zero p q = let z : ◌≡◌ {A = Bool} true false = sym q ∙ p in grind arith
nonzero f (suc b) p q = omega arith

-- std's word for the same count
pub run_is : (f : ℕ → Bool) (l : List ℕ) → run_of f l ≡ prefix_len f l
unfolding run_of
run_is f l = same_from_clauses (run_of f) (prefix_len f) (λ b n. cond (f b) (suc n) 0) refl (λ b bs. refl) (λ b bs. search rules) l

sat-decimal : (ds : List ℕ) (a b : ℕ) → min a 4294967296 ≡ min b 4294967296 → min (decimal a ds) 4294967296 ≡ min (decimal b ds) 4294967296
unfolding decimal
sat-decimal [] a b h = h
sat-decimal (d ∷ ds) a b h = sat-decimal ds (a * 10 + (d - 48)) (b * 10 + (d - 48)) (omega arith)

digits_more : (a b : ℕ) (bs : List ℕ) → digit b ≡ true → decimal a (take (run_of digit (b ∷ bs)) (b ∷ bs)) ≡ decimal (a * 10 + (b - 48)) (take (run_of digit bs) bs)
unfolding decimal
digits_more a b bs h = rw (run_step digit b bs h)

pub number_more : (t : List ℕ) (j a v : ℕ) → j < length t → digit (get_or t j 0) ≡ true → v ≡ min (a * 10 + (get_or t j 0 - 48)) 4294967296
    → min (decimal v (take (run_of digit (drop (j + 1) t)) (drop (j + 1) t))) 4294967296 ≡ min (decimal a (take (run_of digit (drop j t)) (drop j t))) 4294967296
number_more t j a v lt h e =
    let p : decimal a (take (run_of digit (drop j t)) (drop j t)) ≡ decimal (a * 10 + (get_or t j 0 - 48)) (take (run_of digit (drop (j + 1) t)) (drop (j + 1) t))
    = at_drop_more (λ l. decimal a (take (run_of digit l) l)) t j 0 lt ∙ digits_more a (get_or t j 0) (drop (j + 1) t) h in
    rw p (sat-decimal (take (run_of digit (drop (j + 1) t)) (drop (j + 1) t)) v (a * 10 + (get_or t j 0 - 48)) (omega arith))

pub number-none : (t : List ℕ) (j a : ℕ) → digit (get_or t j 0) ≡ false → decimal a (take (run_of digit (drop j t)) (drop j t)) ≡ a
unfolding decimal
number-none t j a h = rw (run_none digit t j h)
