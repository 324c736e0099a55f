-- Turns that are written down: what stands at a byte is one thing at most.
use Rattle.std.proofs.Common.{◌≡◌, ℕ, ◌+◌, ◌-◌, ◌<◌, ◌≤◌, ◌⊎◌, List, [], ◌∷◌, ◌++◌, length, get_or, take, drop, Some, None, Ok, Err, codes, Option, sym, refl, ap, ◌∙◌, subst, inl, inr, arith, lit≤, MatchOption, SomeIff, Result}
use Rattle.std.specs.Result.{result_ok}
use Rattle.std.proofs.lemmas.List.{drop-drop, length-drop, length-append}
use Rattle.grammar.specs.declared.refusals.Refusal.{Refusal}
use Rattle.grammar.specs.Spelling.{digit, each_byte, decimal}
use Rattle.grammar.specs.Runs.{run_of}
use Rattle.grammar.specs.Walk.{bytes_at}
use Rattle.grammar.proofs.Complete.{bytes-done, run-here, part-here}
use Rattle.grammar.proofs.Sound.{bytes-sound, run-splits, run_length, not_err}
use Rattle.grammar.proofs.Walks.{run-each, run-apart}
use Rattle.machine.specs.declared.script.Written.{Written}
use Rattle.machine.specs.declared.script.Written.TheVariants.{Of, Release}
use Rattle.machine.specs.declared.script.Reading.{Reading}
use Rattle.machine.specs.Script.{DigitsHere, BytesHere, Plain, OfHere, ReleaseHere, TurnsAt, GoesOn, TurnHere, TurnsHere}

behind-some : (t w : List ℕ) (i j : ℕ) → Ok j ≡ bytes_at t w i → BytesHere t w i j
behind-some t w i j e = bytes-sound t w i j (sym e)

behind-none : (t w : List ℕ) (i : ℕ) (d : Refusal) → Plain w → Err d ≡ bytes_at t w i → (j : ℕ) → BytesHere t w i j → ⊥
behind-none t w i d p e j h = not_err d (i + length w) (e ∙ bytes-done t i w (drop j t) p h.0)

pub behind-is : (t w : List ℕ) (i : ℕ) → Plain w → (r : Result ℕ Refusal) → r ≡ bytes_at t w i → MatchOption (result_ok r) ((j : ℕ) → BytesHere t w i j → ⊥) (λ j. BytesHere t w i j)
behind-is t w i p (Ok j) e = behind-some t w i j e
behind-is t w i p (Err d) e = behind-none t w i d p e

pub small-some : (t : List ℕ) (i e v : ℕ) → e ≡ i + run_of digit (drop i t) → SomeIff (Some v) (decimal 0 (take (run_of digit (drop i t)) (drop i t)) < 4294967296) (decimal 0 (take (run_of digit (drop i t)) (drop i t))) → i < e → DigitsHere t i v e
small-some t i e v p q h = record {
  digits = take (run_of digit (drop i t)) (drop i t);
  rest = drop (i + run_of digit (drop i t)) t;
  number = record { some = omega (arith, run_length digit t i); bytes = run-each digit (drop i t); value = sym q.1 };
  here = run-splits digit t i;
  ends = ap (λ (u : List ℕ). digit (get_or u 0 0)) (sym (drop-drop (run_of digit (drop i t)) i t)) ∙ run-apart digit refl (drop i t);
  few = omega (arith, q.0, q.1);
  behind = p ∙ ap (λ (n : ℕ). i + n) (sym (run_length digit t i));
}

pub small-none : (t : List ℕ) (i e : ℕ) → e ≡ i + run_of digit (drop i t) → (e ≤ i) ⊎ (decimal 0 (take (run_of digit (drop i t)) (drop i t)) < 4294967296 → ⊥) →
    (w j : ℕ) → DigitsHere t i w j → ⊥
small-none t i e p h w j d =
    let r = run-here digit t i d.digits d.rest d.number.bytes d.ends d.here in
    let s = ap (decimal 0) (part-here digit t i d.digits d.rest d.number.bytes d.ends d.here) ∙ d.number.value in
    let m = d.number.some in
    let f = d.few in
    elim h [ inl a ↦ omega arith | inr b ↦ b (omega arith) ]

pub digits_same : (t : List ℕ) (i v j w k : ℕ) → DigitsHere t i v j → DigitsHere t i w k → (v ≡ w) × (j ≡ k)
digits_same t i v j w k a b =
    let p = part-here digit t i a.digits a.rest a.number.bytes a.ends a.here in
    let q = part-here digit t i b.digits b.rest b.number.bytes b.ends b.here in
    let e : a.digits ≡ b.digits = sym p ∙ q in
    (sym a.number.value ∙ (ap (decimal 0) e ∙ b.number.value), a.behind ∙ (ap (λ (u : List ℕ). i + length u) e ∙ sym b.behind))

pub bytes_same : (t w : List ℕ) (i j k : ℕ) → BytesHere t w i j → BytesHere t w i k → j ≡ k
bytes_same t w i j k a b = a.1 ∙ sym b.1

-- the words that are looked for
pub plain-space : Plain (codes " ")
unfolding each_byte
plain-space = refl

pub plain-line : Plain (codes "\n")
unfolding each_byte
plain-line = refl

pub plain_of : Plain (codes "of ")
unfolding each_byte
plain_of = refl

pub plain-release : Plain (codes "release ")
unfolding each_byte
plain-release = refl

-- no turn, if one of its parts is missing behind parts that are there
module _ (t : List ℕ) (i v b : ℕ) (d : DigitsHere t i v b) where
  pub of-no-space : ((j : ℕ) → BytesHere t (codes " ") b j → ⊥) → (g l n : ℕ) → OfHere t i g l n → ⊥
  of-no-space f g l n (b', c, e, x, y, z, o) = let s = digits_same t i v b g b' d x in f c (rw (sym s.1) at y)

  pub release-no-line : ((j : ℕ) → BytesHere t (codes "\n") b j → ⊥) → (g n : ℕ) → ReleaseHere t i g n → ⊥
  release-no-line f g n (b', x, o) = let s = digits_same t i v b g b' d x in f n (rw (sym s.1) at o)

  pub of-no-lane : (c : ℕ) → BytesHere t (codes " ") b c → ((w j : ℕ) → DigitsHere t c w j → ⊥) → (g l n : ℕ) → OfHere t i g l n → ⊥
  of-no-lane c y f g l n (b', c', e, x, y', z, o) =
      let s = digits_same t i v b g b' d x in
      let q = bytes_same t (codes " ") b c c' y (rw (sym s.1) at y') in f l e (rw (sym q) at z)

  pub of-no-line : (c w e : ℕ) → BytesHere t (codes " ") b c → DigitsHere t c w e → ((j : ℕ) → BytesHere t (codes "\n") e j → ⊥) → (g l n : ℕ) → OfHere t i g l n → ⊥
  of-no-line c w e y z f g l n (b', c', e', x, y', z', o) =
      let s = digits_same t i v b g b' d x in
      let q = bytes_same t (codes " ") b c c' y (rw (sym s.1) at y') in
      let r = digits_same t c w e l e' z (rw (sym q) at z') in f n (rw (sym r.1) at o)

pub none-case : {X : Type 0} (r : Option X) (P : Type 0) (Q : X → Type 0) → r ≡ None → P → MatchOption r P Q
none-case r P Q e p = rw e p

-- the two kinds of lines begin differently
two-heads : (t : List ℕ) (i a b : ℕ) → BytesHere t (codes "of ") i a → BytesHere t (codes "release ") i b → ⊥
two-heads t i a b p q =
    let e : codes "of " ++ drop a t ≡ codes "release " ++ drop b t = sym p.0 ∙ q.0 in
    let f : ◌≡◌ {A = ℕ} 111 114 = ap (λ (u : List ℕ). get_or u 0 0) e in omega arith

of-turn : (t : List ℕ) (i a : ℕ) → BytesHere t (codes "of ") i a → (w : Written) (n : ℕ) → TurnsAt (OfHere t a) w n → TurnHere t i w n
of-turn t i a p (Of g l) n h = (a, p, h)
of-turn t i a p (Release g) n h = absurd h

no-of-turn : (t : List ℕ) (i a : ℕ) → BytesHere t (codes "of ") i a → ((g l n : ℕ) → OfHere t a g l n → ⊥) → (w : Written) (n : ℕ) → TurnHere t i w n → ⊥
no-of-turn t i a p f (Of g l) n (b, q, h) = f g l n (subst (λ m. OfHere t m g l n) (bytes_same t (codes "of ") i b a q p) h)
no-of-turn t i a p f (Release g) n (b, q, h) = two-heads t i a b p q

pub of-cases : (t : List ℕ) (i a : ℕ) → BytesHere t (codes "of ") i a → (r : Option Reading) →
    MatchOption r ((g l n : ℕ) → OfHere t a g l n → ⊥) (λ x. TurnsAt (OfHere t a) x.turn x.next) →
    MatchOption r ((w : Written) (n : ℕ) → TurnHere t i w n → ⊥) (λ x. TurnHere t i x.turn x.next)
of-cases t i a p None f = no-of-turn t i a p f
of-cases t i a p (Some x) h = of-turn t i a p x.turn x.next h

release-turn : (t : List ℕ) (i a : ℕ) → BytesHere t (codes "release ") i a → (w : Written) (n : ℕ) → GoesOn (ReleaseHere t a) w n → TurnHere t i w n
release-turn t i a p (Of g l) n h = absurd h
release-turn t i a p (Release g) n h = (a, p, h)

no-release-turn : (t : List ℕ) (i a : ℕ) → BytesHere t (codes "release ") i a → ((g n : ℕ) → ReleaseHere t a g n → ⊥) → (w : Written) (n : ℕ) → TurnHere t i w n → ⊥
no-release-turn t i a p f (Of g l) n (b, q, h) = two-heads t i b a q p
no-release-turn t i a p f (Release g) n (b, q, h) = f g n (subst (λ m. ReleaseHere t m g n) (bytes_same t (codes "release ") i b a q p) h)

pub release-cases : (t : List ℕ) (i a : ℕ) → BytesHere t (codes "release ") i a → (r : Option Reading) →
    MatchOption r ((g n : ℕ) → ReleaseHere t a g n → ⊥) (λ x. GoesOn (ReleaseHere t a) x.turn x.next) →
    MatchOption r ((w : Written) (n : ℕ) → TurnHere t i w n → ⊥) (λ x. TurnHere t i x.turn x.next)
release-cases t i a p None f = no-release-turn t i a p f
release-cases t i a p (Some x) h = release-turn t i a p x.turn x.next h

pub no-turn : (t : List ℕ) (i : ℕ) → ((j : ℕ) → BytesHere t (codes "of ") i j → ⊥) → ((j : ℕ) → BytesHere t (codes "release ") i j → ⊥) → (w : Written) (n : ℕ) → TurnHere t i w n → ⊥
no-turn t i f g (Of a b) n (j, q, h) = f j q
no-turn t i f g (Release a) n (j, q, h) = g j q

-- a line takes the file further, and not behind its end
bytes-within : (t w : List ℕ) (i j : ℕ) → 1 ≤ length w → BytesHere t w i j → (i < j) × (j ≤ length t)
bytes-within t w i j h (p, q) =
    let e = ap length p in
    let f : length t - i ≡ length w + (length t - j) = rw (length-drop, length-append, length-drop) at e in (omega arith, omega arith)

digits-forward : (t : List ℕ) (i v j : ℕ) → DigitsHere t i v j → i ≤ j
digits-forward t i v j d = omega (arith, d.behind)

pub turn-forward : (t : List ℕ) (i : ℕ) (w : Written) (n : ℕ) → TurnHere t i w n → (i < n) × (n ≤ length t)
turn-forward t i (Of g l) n (a, p, (b, c, d, x, y, z, o)) =
    let q = bytes-within t (codes "of ") i a (lit≤ tt) p in
    let r = digits-forward t a g b x in
    let s = bytes-within t (codes " ") b c (lit≤ tt) y in
    let u = digits-forward t c l d z in
    let v = bytes-within t (codes "\n") d n (lit≤ tt) o in (omega arith, v.1)
turn-forward t i (Release g) n (a, p, (b, x, o)) =
    let q = bytes-within t (codes "release ") i a (lit≤ tt) p in
    let r = digits-forward t a g b x in
    let v = bytes-within t (codes "\n") b n (lit≤ tt) o in (omega arith, v.1)

pub turns_more : (t : List ℕ) (i : ℕ) (ws : List Written) (k : ℕ) (w : Written) (n : ℕ) → TurnsHere t i ws k → TurnHere t k w n → TurnsHere t i (ws ++ (w ∷ [])) n
unfolding TurnsHere
turns_more t i [] k w n p h = (n, subst (λ m. TurnHere t m w n) (sym p) h, refl)
turns_more t i (x ∷ ws) k w n (j, q, p) h = (j, q, turns_more t j ws k w n p h)

pub turns-none : (t : List ℕ) → TurnsHere t 0 [] 0
unfolding TurnsHere
turns-none t = refl
