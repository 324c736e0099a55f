-- Bytes that are read are the bytes of the field that they are read as.
use Rattle.std.proofs.Common.{◌≡◌, ℕ, zero, suc, ◌+◌, ◌*◌, ◌/◌, ◌%◌, ◌<◌, ◌≤◌, List, ◌++◌, map, length, get_or, drop, IfOk, Ok, Err, Result, sym, refl, ap, ◌∙◌, subst, mod-eq_of_lt, zero-add, arith}
use native.Mathlib.Nat.{div-eq_of_lt, add-mul-mod_self_left, add-mul-div_left}
use Rattle.std.specs.List.{range_with_len}
use Rattle.std.proofs.lemmas.List.{drop_more, drop_all}
use Rattle.std.proofs.lemmas.List.FromFn.{length-map-range_with_len}
use Rattle.std.proofs.lemmas.Bool.Decides.{nat_tests}
use Rattle.formats.specs.declared.field.Header.{Header}
use Rattle.formats.specs.declared.refusal.Refusal.{Refusal}
use Rattle.formats.specs.Bytes.{number_at, low_bytes}
use Rattle.formats.specs.Field.{cells_bytes, field_bytes, InRange, read_with, read_as, cell_at, cells_read, IsField}

abbrev Bytes : List ℕ → Type 0
Bytes bs = (k : ℕ) → get_or bs k 0 < 256

low : (a b m : ℕ) → a < m → (a + m * b) % m ≡ a
low a b m h = add-mul-mod_self_left a m b ∙ mod-eq_of_lt h

high : (a b m : ℕ) → a < m → (a + m * b) / m ≡ b
high a b m h = add-mul-div_left a b (omega arith) ∙ ap (λ n. n + b) (div-eq_of_lt h) ∙ zero-add b

-- Bytes are the low bytes of what they mean.
again : (k : ℕ) (bs : List ℕ) (i j : ℕ) → Bytes bs → j ≡ i + k → j ≤ length bs → drop i bs ≡ low_bytes k (number_at k bs i) ++ drop j bs
unfolding number_at low_bytes
again zero bs i j small e h = let z : i ≡ j = omega arith in rw z
again (suc k) bs i j small e h =
    rw (
      drop_more bs i 0 (omega arith),
      again k bs (i + 1) j small (omega arith) h,
      low (get_or bs i 0) (number_at k bs (i + 1)) 256 (small i),
      high (get_or bs i 0) (number_at k bs (i + 1)) 256 (small i),
    )

cells-again : (bs : List ℕ) (k i : ℕ) → Bytes bs → length bs ≡ 16 + 4 * (i + k) → drop (16 + 4 * i) bs ≡ cells_bytes (map (cell_at bs) (range_with_len i k))
unfolding cells_bytes cell_at
cells-again bs zero i small e = drop_all (16 + 4 * i) bs (omega arith)
cells-again bs (suc k) i small e =
    again 4 bs (16 + 4 * i) (16 + 4 * (i + 1)) small (omega arith) (omega arith)
    ∙ ap (λ (x : List ℕ). low_bytes 4 (number_at 4 bs (16 + 4 * i)) ++ x) (cells-again bs k (i + 1) small (omega arith))

length-cells_read : (bs : List ℕ) (n : ℕ) → length (cells_read bs n) ≡ n
unfolding cells_read
length-cells_read bs n = length-map-range_with_len (cell_at bs) 0 n

front-again : (bs : List ℕ) → Bytes bs → 16 ≤ length bs
    → bs ≡ low_bytes 2 (number_at 2 bs 0) ++ (low_bytes 2 (number_at 2 bs 2) ++ (low_bytes 8 (number_at 8 bs 4) ++ (low_bytes 4 (number_at 4 bs 12) ++ drop 16 bs)))
front-again bs small h =
    rw (sym (again 4 bs 12 16 small refl h), sym (again 8 bs 4 12 small refl (omega arith)), sym (again 2 bs 2 4 small refl (omega arith)))
    (again 2 bs 0 2 small refl (omega arith))

pub with-range : (n g l s k : ℕ) (h : Header) → read_with n g l s k ≡ Ok h → InRange g l s k
with-range n g l s k h e =
    record {
      some_group = grind (arith, nat_tests);
      groups_few = grind (arith, nat_tests);
      some_lane = grind (arith, nat_tests);
      lanes_few = grind (arith, nat_tests);
      steps_few = grind (arith, nat_tests);
      cells_few = grind (arith, nat_tests);
    }

pub with_size : (n g l s k : ℕ) (h : Header) → read_with n g l s k ≡ Ok h → n ≡ 16 + 4 * k
with_size n g l s k h e = grind (arith, nat_tests)

with-header : (n g l s k : ℕ) (h : Header) → read_with n g l s k ≡ Ok h → record { groups = g; lanes = l; steps = s; cells = k } ≡ h
with-header n g l s k h e = grind (arith, nat_tests)

field-again : (bs : List ℕ) → Bytes bs → length bs ≡ 16 + 4 * number_at 4 bs 12 → bs ≡ field_bytes (number_at 2 bs 0) (number_at 2 bs 2) (number_at 8 bs 4) (cells_read bs (number_at 4 bs 12))
unfolding field_bytes cells_read
field-again bs small e =
    rw (length-map-range_with_len (cell_at bs) 0 (number_at 4 bs 12), sym (cells-again bs (number_at 4 bs 12) 0 small (omega arith))) (front-again bs small (omega arith))

is_field : (bs : List ℕ) (h : Header) → Bytes bs → read_as bs ≡ Ok h → IsField bs h
unfolding read_as
is_field bs h small e =
    let p = with-header (length bs) (number_at 2 bs 0) (number_at 2 bs 2) (number_at 8 bs 4) (number_at 4 bs 12) h e in
    let n = with_size (length bs) (number_at 2 bs 0) (number_at 2 bs 2) (number_at 8 bs 4) (number_at 4 bs 12) h e in
    let q : IsField bs (record { groups = number_at 2 bs 0; lanes = number_at 2 bs 2; steps = number_at 8 bs 4; cells = number_at 4 bs 12 }) =
    record { in_range = with-range (length bs) (number_at 2 bs 0) (number_at 2 bs 2) (number_at 8 bs 4) (number_at 4 bs 12) h e; size = n; bytes = field-again bs small n } in
    subst (λ (x : Header). IsField bs x) p q

pub read-field : (bs : List ℕ) (r : Result Header Refusal) → Bytes bs → r ≡ read_as bs → IfOk r (λ h. IsField bs h)
read-field bs (Ok h) small e = is_field bs h small (sym e)
read-field bs (Err x) small e = tt
