-- Reading what was written, and writing what was read.
use Rattle.std.proofs.Common.{◌≡◌, ℕ, zero, suc, ◌+◌, ◌*◌, ◌/◌, ◌%◌, ◌^◌, ◌<◌, ◌≤◌, List, [], ◌∷◌, ◌++◌, length, get_or, Ok, sym, refl, ◌∙◌, arith}
use Rattle.std.proofs.Math.Nat.{pow-suc}
use Rattle.std.proofs.lemmas.Nat.{div_below}
use Rattle.std.proofs.lemmas.List.{get_or-append-add, length-append}
use Rattle.std.proofs.lemmas.List.FromFn.{fill_by_all}
use Rattle.std.proofs.lemmas.Bool.Decides.{nat_tests}
use Rattle.formats.specs.Bytes.{number_at, low_bytes}
use Rattle.formats.specs.Field.{cells_bytes, field_bytes, InRange, read_with, read_as, cell_at, cells_read, ReadsBack}

at-append : (xs ys : List ℕ) (i j : ℕ) → j ≡ length xs + i → get_or (xs ++ ys) j 0 ≡ get_or ys i 0
at-append xs ys i j e = rw e (get_or-append-add xs ys i 0)

number-behind : (k : ℕ) (xs ys : List ℕ) (i j : ℕ) → j ≡ length xs + i → number_at k (xs ++ ys) j ≡ number_at k ys i
unfolding number_at
number-behind zero xs ys i j e = refl
number-behind (suc k) xs ys i j e = rw (at-append xs ys i j e, number-behind k xs ys (i + 1) (j + 1) (omega arith))

pub length-low_bytes : (k n : ℕ) → length (low_bytes k n) ≡ k
unfolding low_bytes
length-low_bytes zero n = refl
length-low_bytes (suc k) n = omega (arith, length-low_bytes k (n / 256))

-- The k low bytes of a number that has no more are read as that number.
number-first : (k n : ℕ) (xs : List ℕ) → n < 256 ^ k → number_at k (low_bytes k n ++ xs) 0 ≡ n
unfolding number_at low_bytes
number-first zero n xs h = omega arith
number-first (suc k) n xs h =
    let rest : number_at k (n % 256 ∷ (low_bytes k (n / 256) ++ xs)) 1 ≡ number_at k (low_bytes k (n / 256) ++ xs) 0 = number-behind k (n % 256 ∷ []) (low_bytes k (n / 256) ++ xs) 0 1 refl in
    let fits : n / 256 < 256 ^ k = div_below n 256 (256 ^ k) (omega arith) (rw (sym (pow-suc 256 k)) h) in
    omega (arith, rest, number-first k (n / 256) xs fits)

length-cells_bytes : (cs : List ℕ) → length (cells_bytes cs) ≡ 4 * length cs
unfolding cells_bytes
length-cells_bytes [] = refl
length-cells_bytes (c ∷ cs) = omega (arith, length-append (low_bytes 4 c) (cells_bytes cs), length-low_bytes 4 c, length-cells_bytes cs)

-- Cell k of the cells' bytes.
number-cells : (cs : List ℕ) (k : ℕ) → ((j : ℕ) → get_or cs j 0 < 4294967296) → k < length cs → number_at 4 (cells_bytes cs) (4 * k) ≡ get_or cs k 0
unfolding cells_bytes
number-cells [] k small h = omega arith
number-cells (c ∷ cs) zero small h = number-first 4 c (cells_bytes cs) (small 0)
number-cells (c ∷ cs) (suc k) small h =
    number-behind 4 (low_bytes 4 c) (cells_bytes cs) (4 * k) (4 * suc k) (omega (arith, length-low_bytes 4 c)) ∙ number-cells cs k (λ j. small (suc j)) (omega arith)

length-field : (g l s : ℕ) (cs : List ℕ) → length (field_bytes g l s cs) ≡ 16 + 4 * length cs
unfolding field_bytes
length-field g l s cs = simp (length-append, length-low_bytes) (omega (arith, length-cells_bytes cs))

-- A number behind those before it.
number-next : (k n at : ℕ) (xs ys : List ℕ) → at ≡ length xs → n < 256 ^ k → number_at k (xs ++ (low_bytes k n ++ ys)) at ≡ n
number-next k n at xs ys e h = number-behind k xs (low_bytes k n ++ ys) 0 at (omega arith) ∙ number-first k n ys h

read-groups : (g l s : ℕ) (cs : List ℕ) → g ≤ 1024 → number_at 2 (field_bytes g l s cs) 0 ≡ g
unfolding field_bytes
read-groups g l s cs h = number-first 2 g _ (omega arith)

read-lanes : (g l s : ℕ) (cs : List ℕ) → l ≤ 1024 → number_at 2 (field_bytes g l s cs) 2 ≡ l
unfolding field_bytes
read-lanes g l s cs h = number-next 2 l 2 (low_bytes 2 g) _ (sym (length-low_bytes 2 g)) (omega arith)

read-steps : (g l s : ℕ) (cs : List ℕ) → s ≤ 1099511627776 → number_at 8 (field_bytes g l s cs) 4 ≡ s
unfolding field_bytes
read-steps g l s cs h =
    number-behind 8 (low_bytes 2 g) _ 2 4 (omega (arith, length-low_bytes 2 g)) ∙ number-next 8 s 2 (low_bytes 2 l) _ (sym (length-low_bytes 2 l)) (omega arith)

read_count : (g l s : ℕ) (cs : List ℕ) → length cs ≤ 16777216 → number_at 4 (field_bytes g l s cs) 12 ≡ length cs
unfolding field_bytes
read_count g l s cs h =
    number-behind 4 (low_bytes 2 g) _ 10 12 (omega (arith, length-low_bytes 2 g))
    ∙ number-behind 4 (low_bytes 2 l) _ 8 10 (omega (arith, length-low_bytes 2 l))
    ∙ number-next 4 (length cs) 8 (low_bytes 8 s) _ (sym (length-low_bytes 8 s)) (omega arith)

read_cell : (g l s : ℕ) (cs : List ℕ) (k : ℕ) → ((j : ℕ) → get_or cs j 0 < 4294967296) → k < length cs → cell_at (field_bytes g l s cs) k ≡ get_or cs k 0
unfolding field_bytes cell_at
read_cell g l s cs k small h =
    number-behind 4 (low_bytes 2 g) _ (14 + 4 * k) (16 + 4 * k) (omega (arith, length-low_bytes 2 g))
    ∙ number-behind 4 (low_bytes 2 l) _ (12 + 4 * k) (14 + 4 * k) (omega (arith, length-low_bytes 2 l))
    ∙ number-behind 4 (low_bytes 8 s) _ (4 + 4 * k) (12 + 4 * k) (omega (arith, length-low_bytes 8 s))
    ∙ number-behind 4 (low_bytes 4 (length cs)) _ (4 * k) (4 + 4 * k) (omega (arith, length-low_bytes 4 (length cs)))
    ∙ number-cells cs k small h

with-right : (g l s n : ℕ) → InRange g l s n → read_with (16 + 4 * n) g l s n ≡ Ok (record { groups = g; lanes = l; steps = s; cells = n })
with-right g l s n ok = grind (arith, nat_tests)

pub reads-back : ReadsBack
unfolding ReadsBack cells_read read_as
reads-back g l s cs ok small = (
  rw (length-field g l s cs, read-groups g l s cs ok.groups_few, read-lanes g l s cs ok.lanes_few, read-steps g l s cs ok.steps_few, read_count g l s cs ok.cells_few) (with-right g l s (length cs) ok),
  sym (fill_by_all (cell_at (field_bytes g l s cs)) cs (length cs) 0 refl (λ k h. sym (read_cell g l s cs k small h))),
)
