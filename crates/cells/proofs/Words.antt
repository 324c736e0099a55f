-- The word at a byte, of what stands before it and what stands behind it.
use Rattle.std.proofs.Common.{◌≡◌, ℕ, suc, ◌+◌, ◌-◌, ◌<◌, ◌≤◌, min, List, length, get_or, take, drop, refl, ap, ◌∙◌, inl, inr, arith}
use Rattle.std.proofs.lemmas.List.{length-take-le, length-drop, get_or-take, get_or-drop}
use Rattle.std.proofs.lemmas.Bool.{cases_lt}
use Rattle.cells.specs.Word.{IsWord}

pub is_word : (t u v : List ℕ) (i m from far : ℕ) → m ≡ min i (length t) → u ≡ take m t → v ≡ drop m t
    → from ≤ length u → ((k : ℕ) → from ≤ k → k < length u → 32 < get_or u k 0) → ((k : ℕ) → from ≡ suc k → get_or u k 0 ≤ 32)
    → far ≤ length v → ((k : ℕ) → k < far → 32 < get_or v k 0) → (far < length v → get_or v far 0 ≤ 32)
    → IsWord t i (take (length u + far - from) (drop from t))
is_word t u v i m from far e eu ev h plain begins h' plain' ends =
    record {
      from = from;
      to = length u + far;
      begun = omega (arith, long);
      reaches = omega (arith, long);
      within = omega (arith, long, rest);
      bytes = refl;
      plain = λ k a b. elim (cases_lt k m) [ inl l ↦ omega (arith, long, plain k a (omega (arith, long)), front k l) | inr l ↦ omega (arith, long, plain' (k - m) (omega (arith, long)), behind k l) ];
      begins = λ k a. omega (arith, long, begins k a, front k (omega (arith, long)));
      ends = λ b. omega (arith, ends (omega (arith, long, rest)), behind (length u + far) (omega (arith, long)), ap (λ (n : ℕ). get_or v n 0) past);
    }
  where
    long : length u ≡ m
    long = ap length eu ∙ length-take-le m t (omega arith)

    rest : length v ≡ length t - m
    rest = ap length ev ∙ length-drop m t

    front : (k : ℕ) → k < m → get_or u k 0 ≡ get_or t k 0
    front k l = ap (λ (xs : List ℕ). get_or xs k 0) eu ∙ get_or-take m t k 0 l

    behind : (k : ℕ) → m ≤ k → get_or v (k - m) 0 ≡ get_or t k 0
    behind k l = ap (λ (xs : List ℕ). get_or xs (k - m) 0) ev ∙ get_or-drop m t (k - m) 0 ∙ ap (λ (n : ℕ). get_or t n 0) (omega arith)

    past : length u + far - m ≡ far
    past = omega (arith, long)
