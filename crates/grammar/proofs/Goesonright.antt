-- What has the shape of an expression or a line is never refused for its shape.
use Rattle.std.proofs.Common.{◌≡◌, ℕ, zero, suc, ◌+◌, ◌≤◌, Bool, true, false, cond, List, [], ◌∷◌, ◌++◌, length, get_or, drop, Some, None, Ok, Err, Option, Result, sym, refl, ap, ◌∙◌, arith}
use Rattle.std.proofs.lemmas.List.{append_assoc, length-append}
use Rattle.std.proofs.lemmas.Bool.Decides.{nat_tests}
use Rattle.lanes.specs.Syntax.{Expr, fixed, var, lane, group, lanes, plus, minus, times, over, rest_of, less, same}
use Rattle.grammar.specs.Spelling.{letter, digit, word_byte, each_byte, IsName, IsNumber, infix_of, SpellsExpr, AnyName}
use Rattle.grammar.specs.Stands.{Apart}
use Rattle.grammar.specs.Runs.{written}
use Rattle.grammar.specs.Walk.{key_of, word_atom, some_token, atom_at, is_operator_spec, is_atom_spec, expr_at, and_then}
use Rattle.grammar.specs.declared.refusals.Refusal.{Refusal}
use Rattle.grammar.specs.declared.refusals.Refusal.TheVariants.{Shape, Unknown, Large, Long}
use Rattle.grammar.specs.declared.keywords.Keyword.{Keyword}
use Rattle.grammar.specs.declared.keywords.Keyword.TheVariants as kw
use Rattle.grammar.proofs.Walks.{key-written}
use Rattle.grammar.proofs.Scanned.{byte_at}
use Rattle.grammar.proofs.Complete.{first_byte, past, past-byte, bytes-done, run-here, key-free, byte_of, word-done, digit-not_letter, not-open}
use Rattle.grammar.proofs.Spelled.{operator-done}
use Rattle.grammar.proofs.Sound.{not_err, same_ok}

-- What is read, if it is read, is P; and it is not refused for its shape.
pub record Good {X : Type 0} (r : Result X Refusal) (P : X → Type 0) : Type 0 where
  pub ok : (x : X) → r ≡ Ok x → P x
  pub shaped : (q : ℕ) → r ≡ Err (Shape q) → ⊥

pub good-ok : {X : Type 0} (x : X) (P : X → Type 0) → P x → Good (Ok x) P
good-ok x P h = record { ok = λ y e. let q : x ≡ y = same_ok x y e in rw (sym q) h; shaped = λ q e. let z : ◌≡◌ {A = ℕ} 0 1 = cc in omega arith }

pub good-other : {X : Type 0} (d : Refusal) (P : X → Type 0) → ((q : ℕ) → d ≡ Shape q → ⊥) → Good {X = X} (Err d) P
good-other d P h = record { ok = λ y e. absurd (not_err d y e); shaped = λ q e. let n : d ≡ Shape q = cc in h q n }

pub good-then : {X Y : Type 0} (r : Result X Refusal) (f : X → Result Y Refusal) (P : X → Type 0) (Q : Y → Type 0) → Good r P → ((x : X) → P x → Good (f x) Q) → Good (and_then r f) Q
good-then (Ok x) f P Q g h = h x (g.ok x refl)
good-then (Err d) f P Q g h = good-other d Q (λ q e. g.shaped q (ap (λ m. Err m) e))

pub good-cond : {X : Type 0} (b : Bool) (r s : Result X Refusal) (P : X → Type 0) → Good r P → Good s P → Good (cond b r s) P
good-cond true r s P g h = g
good-cond false r s P g h = h

pub no-unknown : (i q : ℕ) → Unknown i ≡ Shape q → ⊥
no-unknown i q e = let z : ◌≡◌ {A = ℕ} 0 1 = cc in omega arith

pub no-large : (i q : ℕ) → Large i ≡ Shape q → ⊥
no-large i q e = let z : ◌≡◌ {A = ℕ} 0 1 = cc in omega arith

pub no-long : (i q : ℕ) → Long i ≡ Shape q → ⊥
no-long i q e = let z : ◌≡◌ {A = ℕ} 0 1 = cc in omega arith

digit-word : (b : ℕ) → digit b ≡ true → word_byte b ≡ true
digit-word b h = grind (arith, nat_tests)

letter-word : (b : ℕ) → letter b ≡ true → word_byte b ≡ true
letter-word b h = grind (arith, nat_tests)

apart-digit : (b : ℕ) → word_byte b ≡ false → digit b ≡ false
apart-digit b h = grind (arith, nat_tests)

module _ (find : List ℕ → Option ℕ) (text : List ℕ) where
  abbrev pub At : ℕ → ℕ → Type 0
  At m j = j ≡ m

  abbrev RightAtom : List ℕ → Type 0
  RightAtom u = (i : ℕ) (z : List ℕ) → drop i text ≡ u ++ z → Apart z → Good (atom_at find text i) (At (i + length u))

  abbrev pub RightExpr : ℕ → List ℕ → Type 0
  RightExpr n u = (i : ℕ) (z : List ℕ) → drop i text ≡ u ++ z → Apart z → Good (expr_at find text n i) (At (i + length u))

  number-right : (a : ℕ) (u : List ℕ) → IsNumber a u → RightAtom u
  unfolding atom_at
  number-right a u h i z e p =
      let d : digit (get_or u 0 0) ≡ true = byte_at digit u 0 h.bytes h.some in
      let q : digit (get_or z 0 0) ≡ false = apart-digit (get_or z 0 0) p in
      rw (byte_of text i u z h.some e, d, run-here digit text i u z h.bytes q e)
      (good-cond _ (Ok (i + length u)) (Err (Large i)) (At (i + length u)) (good-ok (i + length u) (At (i + length u)) refl) (good-other (Large i) (At (i + length u)) (no-large i)))

  word-right-atom : (k : Option Keyword) (o : Option ℕ) (u : List ℕ) → 1 ≤ length u → letter (get_or u 0 0) ≡ true → each_byte word_byte u ≡ true → length u ≤ 8 → key_of u ≡ k → find u ≡ o
      → ((i j : ℕ) → Good (and_then (some_token k o i j) (λ t. word_atom t.word t.end)) (At j)) → RightAtom u
  unfolding atom_at
  word-right-atom k o u s b y l p q ok i z e a =
      rw (byte_of text i u z s e, digit-not_letter (get_or u 0 0) b, word-done find text i u z s b y l e a k o p q) (ok i (i + length u))

  some_right : (o : Option ℕ) (i j : ℕ) → Good (and_then (some_token None o i j) (λ t. word_atom t.word t.end)) (At j)
  some_right None i j = good-other (Unknown i) (At j) (no-unknown i)
  some_right (Some k) i j = good-ok j (At j) refl

  name-right : (u : List ℕ) → IsName u → RightAtom u
  name-right u h = word-right-atom None (find u) u h.some h.begins h.bytes h.short (key-free u h.free) refl (some_right (find u))

  key_right : (k : Keyword) → is_atom_spec k ≡ true → 1 ≤ length (written k) → letter (get_or (written k) 0 0) ≡ true → each_byte word_byte (written k) ≡ true → length (written k) ≤ 8 → RightAtom (written k)
  key_right k h s b y l = word-right-atom (Some k) (find (written k)) (written k) s b y l (key-written k) refl (λ i j. rw h (good-ok j (At j) refl))

  lifted : (n : ℕ) (u : List ℕ) → 1 ≤ length u → word_byte (get_or u 0 0) ≡ true → RightAtom u → RightExpr n u
  unfolding expr_at
  lifted zero u s w r i z e a = rw (byte_of text i u z s e, not-open (get_or u 0 0) w) (r i z e a)
  lifted (suc n) u s w r i z e a = rw (byte_of text i u z s e, not-open (get_or u 0 0) w) (r i z e a)

  key_expr : (k : Keyword) (n : ℕ) (u : List ℕ) → is_atom_spec k ≡ true → 1 ≤ length (written k) → letter (get_or (written k) 0 0) ≡ true → each_byte word_byte (written k) ≡ true → length (written k) ≤ 8 → u ≡ written k → RightExpr n u
  key_expr k n u h s b y l e = rw e (lifted n (written k) s (letter-word (get_or (written k) 0 0) b) (key_right k h s b y l))

  binary-right : (n op : ℕ) (u v w : List ℕ) → w ≡ infix_of u op v → is_operator_spec op ≡ true → ((m : ℕ) → RightExpr m u) → ((m : ℕ) → RightExpr m v) → RightExpr n w
  unfolding expr_at each_byte
  binary-right zero op u v w q o ru rv i z e a =
      let x0 : drop i text ≡ 40 ∷ ((u ++ (32 ∷ op ∷ 32 ∷ (v ++ (41 ∷ [])))) ++ z) = e ∙ ap (λ t. t ++ z) q in
      rw (first_byte text i 40 _ x0) (good-other (Long i) (At (i + length w)) (no-long i))
  binary-right (suc n) op u v w q o ru rv i z e a =
      let x0 : drop i text ≡ 40 ∷ (u ++ (32 ∷ op ∷ 32 ∷ (v ++ (41 ∷ z)))) =
      e ∙ ap (λ t. t ++ z) q ∙ ap (λ t. 40 ∷ t) (append_assoc u (32 ∷ op ∷ 32 ∷ (v ++ (41 ∷ []))) z ∙ ap (λ t. u ++ (32 ∷ op ∷ 32 ∷ t)) (append_assoc v (41 ∷ []) z)) in
      let x1 : drop (i + 1) text ≡ u ++ (32 ∷ op ∷ 32 ∷ (v ++ (41 ∷ z))) = past-byte text i 40 _ x0 in
      let x2 : drop ((i + 1) + length u) text ≡ 32 ∷ op ∷ 32 ∷ (v ++ (41 ∷ z)) = past text (i + 1) u _ x1 in
      let x3 : drop (((i + 1) + length u) + 3) text ≡ v ++ (41 ∷ z) = past text ((i + 1) + length u) (32 ∷ op ∷ 32 ∷ []) _ x2 in
      let x4 : drop ((((i + 1) + length u) + 3) + length v) text ≡ 41 ∷ z = past text (((i + 1) + length u) + 3) v _ x3 in
      let len : length w ≡ 1 + (length u + (3 + (length v + 1))) = ap length q ∙ omega (arith, length-append u (32 ∷ op ∷ 32 ∷ (v ++ (41 ∷ []))), length-append v (41 ∷ [])) in
      let end : ((((i + 1) + length u) + 3) + length v) + 1 ≡ i + length w = omega (arith, len) in
      rw (first_byte text i 40 _ x0)
      (good-then (expr_at find text n (i + 1)) _ (At ((i + 1) + length u)) (At (i + length w)) (ru n (i + 1) _ x1 refl)
      (λ j ej. rw (ej, operator-done find text ((i + 1) + length u) op _ o x2)
      (good-then (expr_at find text n (((i + 1) + length u) + 3)) _ (At ((((i + 1) + length u) + 3) + length v)) (At (i + length w)) (rv n (((i + 1) + length u) + 3) _ x3 refl)
      (λ l el. rw (el, bytes-done text ((((i + 1) + length u) + 3) + length v) (41 ∷ []) z refl x4) (good-ok (((((i + 1) + length u) + 3) + length v) + 1) (At (i + length w)) end)))))

  pub expr-right : (e : Expr) (n : ℕ) (u : List ℕ) → SpellsExpr AnyName e u → RightExpr n u
  unfolding SpellsExpr each_byte
  expr-right (fixed a) n u s = lifted n u s.some (digit-word (get_or u 0 0) (byte_at digit u 0 s.bytes s.some)) (number-right a u s)
  expr-right (var k) n u s = lifted n u s.some (letter-word (get_or u 0 0) s.begins) (name-right u s)
  expr-right lane n u s = key_expr kw.Lane n u refl (omega arith) refl refl (omega arith) s
  expr-right group n u s = key_expr kw.Group n u refl (omega arith) refl refl (omega arith) s
  expr-right lanes n u s = key_expr kw.Lanes n u refl (omega arith) refl refl (omega arith) s
  expr-right (plus e g) n t s = binary-right n 43 s.0 s.1 t s.4 refl (λ m. expr-right e m s.0 s.2) (λ m. expr-right g m s.1 s.3)
  expr-right (minus e g) n t s = binary-right n 45 s.0 s.1 t s.4 refl (λ m. expr-right e m s.0 s.2) (λ m. expr-right g m s.1 s.3)
  expr-right (times e g) n t s = binary-right n 42 s.0 s.1 t s.4 refl (λ m. expr-right e m s.0 s.2) (λ m. expr-right g m s.1 s.3)
  expr-right (over e g) n t s = binary-right n 47 s.0 s.1 t s.4 refl (λ m. expr-right e m s.0 s.2) (λ m. expr-right g m s.1 s.3)
  expr-right (rest_of e g) n t s = binary-right n 37 s.0 s.1 t s.4 refl (λ m. expr-right e m s.0 s.2) (λ m. expr-right g m s.1 s.3)
  expr-right (less e g) n t s = binary-right n 60 s.0 s.1 t s.4 refl (λ m. expr-right e m s.0 s.2) (λ m. expr-right g m s.1 s.3)
  expr-right (same e g) n t s = binary-right n 61 s.0 s.1 t s.4 refl (λ m. expr-right e m s.0 s.2) (λ m. expr-right g m s.1 s.3)
