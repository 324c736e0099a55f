-- Numbers in bytes, as std reads and writes them.
use Rattle.std.proofs.Common.{◌≡◌, ℕ, zero, suc, ◌+◌, ◌-◌, ◌*◌, ◌/◌, ◌%◌, ◌^◌, ◌<◌, ◌≤◌, List, [], ◌∷◌, ◌++◌, length, get_or, take, drop, replicate, sym, refl, ap, ◌∙◌, arith, w64}
use Rattle.std.specs.Int.{to_le_bytes, from_le_bytes, byte_at, bytes_low_first}
use Rattle.std.proofs.Math.Nat.{pow-suc, div-one, div-div-eq-div-mul}
use Rattle.std.proofs.Math.ListN.{get_or-append}
use Rattle.std.proofs.lemmas.List.{get_or-append_right, get_or-take, get_or-drop, length-take-le, length-drop}
use Rattle.formats.specs.Bytes.{number_at, low_bytes}

byte-is : (i n : ℕ) → byte_at i n ≡ n / 256 ^ i % 256
byte-is zero n = rw (div-one n)
byte-is (suc i) n = refl

low-first : (i k n : ℕ) → bytes_low_first i k n ≡ low_bytes k (n / 256 ^ i)
unfolding low_bytes
low-first i zero n = refl
low-first i (suc k) n = rw (byte-is i n, low-first (suc i) k n, div-div-eq-div-mul n (256 ^ i) 256, sym (pow-suc 256 i)) refl

take-low : (k m n : ℕ) → k ≤ m → take k (low_bytes m n) ≡ low_bytes k n
unfolding low_bytes
take-low zero m n h = refl
take-low (suc k) zero n h = absurd (omega arith)
take-low (suc k) (suc m) n h = ap (λ (x : List ℕ). n % 256 ∷ x) (take-low k m (n / 256) (omega arith))

-- The k low bytes of the eight.
pub low-of_eight : (k n : ℕ) → k ≤ 8 → take k (to_le_bytes w64 n) ≡ low_bytes k n
low-of_eight k n h = ap (take k) (low-first 0 8 n) ∙ take-low k 8 (n / 256 ^ 0) h ∙ ap (low_bytes k) (div-one n)

get_or-zeros : (n i : ℕ) → ◌≡◌ {A = ℕ} (get_or (replicate n 0) i 0) 0
get_or-zeros zero i = refl
get_or-zeros (suc n) zero = refl
get_or-zeros (suc n) (suc i) = get_or-zeros n i

number-none : (k : ℕ) (xs : List ℕ) (i : ℕ) → ((l : ℕ) → i ≤ l → get_or xs l 0 ≡ 0) → number_at k xs i ≡ 0
unfolding number_at
number-none zero xs i h = refl
number-none (suc k) xs i h = omega (arith, h i (omega arith), number-none k xs (i + 1) (λ l g. h l (omega arith)))

-- Bytes that stand elsewhere, with zeros behind them, mean the same.
number-padded : (k m : ℕ) (xs ys : List ℕ) (i j : ℕ) → k ≤ m → ((l a b : ℕ) → l < k → a ≡ i + l → b ≡ j + l → get_or xs a 0 ≡ get_or ys b 0)
    → ((l : ℕ) → i + k ≤ l → get_or xs l 0 ≡ 0) → number_at m xs i ≡ number_at k ys j
unfolding number_at
number-padded zero m xs ys i j h same none = number-none m xs i (λ l g. none l (omega arith))
number-padded (suc k) zero xs ys i j h same none = absurd (omega arith)
number-padded (suc k) (suc m) xs ys i j h same none =
    let first : get_or xs i 0 ≡ get_or ys j 0 = same 0 i j (omega arith) (omega arith) (omega arith) in
    let rest : number_at m xs (i + 1) ≡ number_at k ys (j + 1) =
    number-padded k m xs ys (i + 1) (j + 1) (omega arith) (λ l a b g e f. same (l + 1) a b (omega arith) (omega arith) (omega arith)) (λ l g. none l (omega arith)) in
    omega arith

pub number-copied : (k : ℕ) (bs zs : List ℕ) (at : ℕ) → k ≤ 8 → at + k ≤ length bs → ((l : ℕ) → get_or zs l 0 ≡ 0)
    → number_at 8 (take k (drop at bs) ++ zs) 0 ≡ number_at k bs at
number-copied k bs zs at h r none = number-padded k 8 (take k (drop at bs) ++ zs) bs 0 at h same past
  where
    part : length (take k (drop at bs)) ≡ k
    part = length-take-le k (drop at bs) (simp length-drop (omega arith))

    same : (l a b : ℕ) → l < k → a ≡ 0 + l → b ≡ at + l → get_or (take k (drop at bs) ++ zs) a 0 ≡ get_or bs b 0
    same l a b g e f =
        let e' : a ≡ l = omega arith in
        rw (e', f) (get_or-append (take k (drop at bs)) zs 0 l (omega (arith, part)) ∙ get_or-take k (drop at bs) l 0 g ∙ get_or-drop at bs l 0)

    past : (l : ℕ) → 0 + k ≤ l → get_or (take k (drop at bs) ++ zs) l 0 ≡ 0
    past l g = get_or-append_right (take k (drop at bs)) zs k l 0 part (omega arith) ∙ none (l - k)

abbrev pub eight_zeros : List ℕ
eight_zeros = 0 ∷ 0 ∷ 0 ∷ 0 ∷ 0 ∷ 0 ∷ 0 ∷ 0 ∷ []

pub zeros : (k l : ℕ) → ◌≡◌ {A = ℕ} (get_or (drop k eight_zeros) l 0) 0
zeros k l = get_or-drop k eight_zeros l 0 ∙ get_or-zeros 8 (k + l)

pub small : (k : ℕ) (bs : List ℕ) (i : ℕ) → ((l : ℕ) → get_or bs l 0 < 256) → number_at k bs i < 256 ^ k
unfolding number_at
small zero bs i h = omega arith
small (suc k) bs i h = let e : 256 ^ suc k ≡ 256 ^ k * 256 = pow-suc 256 k in omega (arith, h i, small k bs (i + 1) h)

pub eight-is : (zs : List ℕ) → from_le_bytes w64 zs ≡ number_at 8 zs 0
unfolding number_at
eight-is zs = omega arith
