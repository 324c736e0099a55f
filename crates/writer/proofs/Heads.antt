-- Reading the first two lines as a function of the bytes, and with them whole texts: a text is one program at most.
use Rattle.std.proofs.Common.{◌≡◌, ℕ, zero, suc, ◌+◌, ◌<◌, true, false, cond, eqb, List, [], ◌∷◌, ◌++◌, length, get_or, drop, codes, sym, refl, ap, ◌∙◌, subst, inl, inr, suc-le-suc, zero-le, le_of_suc-le-suc, not-suc-le-zero, arith}
use Rattle.std.specs.List.{flat_map}
use Rattle.std.proofs.lemmas.List.{append_assoc}
use Rattle.std.proofs.lemmas.Bool.{and_parts, and_from, eqb-true, eq-eqb, cases_Bool, both_ways}
use Rattle.lanes.specs.Syntax.{Program, Body, end, put, read_shared, write_shared, read_all, write_all, barrier, when, while}
use Rattle.grammar.specs.Spelling.{digit, word_byte, same_bytes, IsName, decimal, SpellsBody, OwnLine, CellsLine, Spelled, Named}
use Rattle.grammar.specs.Taken.{Distinct}
use Rattle.grammar.proofs.Bytewise.{digit-word, each_weaken, named-names}
use Rattle.writer.specs.Once.{OneProgram}
use Rattle.writer.proofs.Parses.{front, back, front-run, back-run, name-unlike}
use Rattle.writer.proofs.Bodies.{body_of, body_back, body_height}

pub same_refl : (u : List ℕ) → same_bytes u u ≡ true
unfolding same_bytes
same_refl [] = refl
same_refl (b ∷ u) = and_from (eqb b b) (same_bytes u u) (eq-eqb b b refl) (same_refl u)

pub same-is : (u v : List ℕ) → same_bytes u v ≡ true → u ≡ v
unfolding same_bytes
same-is [] [] e = refl
same-is [] (c ∷ v) e = absurd (both_ways false refl e)
same-is (b ∷ u) [] e = absurd (both_ways false refl e)
same-is (b ∷ u) (c ∷ v) e = let p = and_parts (eqb b c) (same_bytes u v) e in rw (eqb-true b c p.0, same-is u v p.1)

-- the place of a name among others
unfoldable pub place_in : List (List ℕ) → List ℕ → ℕ
place_in [] u = 0
place_in (v ∷ vs) u = cond (same_bytes v u) 0 (suc (place_in vs u))

pub place-there : (ns : List (List ℕ)) (k : ℕ) → k < length ns → (place_in ns (get_or ns k []) < length ns) × (get_or ns (place_in ns (get_or ns k [])) [] ≡ get_or ns k [])
unfolding place_in
place-there [] k h = absurd (not-suc-le-zero h)
place-there (v ∷ vs) zero h = rw (same_refl v) (suc-le-suc zero-le, refl)
place-there (v ∷ vs) (suc k) h =
    elim (cases_Bool (same_bytes v (get_or vs k []))) [
      | inl e ↦ rw e (suc-le-suc zero-le, same-is v (get_or vs k []) e)
      | inr e ↦ let p = place-there vs k (le_of_suc-le-suc h) in rw e (suc-le-suc p.0, p.1)
    ]

pub place_found : (ns : List (List ℕ)) → Distinct ns → (k : ℕ) (u : List ℕ) → Named ns k u → place_in ns u ≡ k
place_found ns d k u (h, q) = rw q (let p = place-there ns k h in d (place_in ns (get_or ns k [])) k p.0 h p.1)

-- the names behind "own"
unfoldable names_of : ℕ → List ℕ → List (List ℕ) × List ℕ
names_of zero t = ([], t)
names_of (suc n) t =
    cond (eqb (get_or t 0 0) 32) (front word_byte (drop 1 t) ∷ (names_of n (back word_byte (drop 1 t))).0, (names_of n (back word_byte (drop 1 t))).1) ([], drop 1 t)

abbrev Names : List (List ℕ) → Type 0
Names ns = (k : ℕ) → k < length ns → IsName (get_or ns k [])

apart-names : (ns : List (List ℕ)) (x : List ℕ) → word_byte (get_or (flat_map (λ u. 32 ∷ u) ns ++ (10 ∷ x)) 0 0) ≡ false
apart-names [] x = refl
apart-names (u ∷ ns) x = refl

names-back : (ns : List (List ℕ)) (x : List ℕ) (n : ℕ) → Names ns → length ns < n → names_of n (flat_map (λ u. 32 ∷ u) ns ++ (10 ∷ x)) ≡ (ns, x)
unfolding names_of
names-back ns x zero i h = absurd (not-suc-le-zero h)
names-back [] x (suc n) i h = refl
names-back (u ∷ ns) x (suc n) i h =
    let w = i 0 (suc-le-suc zero-le) in
    let r = names-back ns x n (λ k l. i (suc k) (suc-le-suc l)) (le_of_suc-le-suc h) in
    rw (append_assoc u (flat_map (λ u. 32 ∷ u) ns) (10 ∷ x)) (rw (front-run word_byte u (flat_map (λ u. 32 ∷ u) ns ++ (10 ∷ x)) w.bytes (apart-names ns x), back-run word_byte u (flat_map (λ u. 32 ∷ u) ns ++ (10 ∷ x)) w.bytes (apart-names ns x), r))

-- the first word of a body is neither own nor cells
record BodyLead (t : List ℕ) : Type 0 where
  no_own : same_bytes (codes "own") (front word_byte t) ≡ false
  no_cells : same_bytes (codes "cells") (front word_byte t) ≡ false

module _ (N : ℕ → List ℕ → Type 0) (is_name : (k : ℕ) (u : List ℕ) → N k u → IsName u) where
  name_lead : (k : ℕ) (a x : List ℕ) → N k a → BodyLead (a ++ (codes " = " ++ x))
  name_lead k a x h =
      let i = is_name k a h in
      let r = front-run word_byte a (codes " = " ++ x) i.bytes refl in
      let w = name-unlike a i.free in record { no_own = rw r w.own; no_cells = rw r w.cells }

  body_lead : (b : Body) (t : List ℕ) → SpellsBody N b t → BodyLead t
  unfolding SpellsBody same_bytes
  body_lead end t s = rw s (record { no_own = refl; no_cells = refl })
  body_lead (put k e b) t (a, u, z, i, s, r, q) = rw q (name_lead k a (u ++ (10 ∷ z)) i)
  body_lead (read_shared k e b) t (a, u, z, i, s, r, q) = rw q (name_lead k a (codes "cell " ++ (u ++ (10 ∷ z))) i)
  body_lead (read_all k e b) t (a, u, z, i, s, r, q) = rw q (name_lead k a (codes "field " ++ (u ++ (10 ∷ z))) i)
  body_lead (write_shared e f b) t (u, v, z, s, r, g, q) = rw q (record { no_own = refl; no_cells = refl })
  body_lead (write_all e f b) t (u, v, z, s, r, g, q) = rw q (record { no_own = refl; no_cells = refl })
  body_lead (barrier b) t (z, r, q) = rw q (record { no_own = refl; no_cells = refl })
  body_lead (when e c d b) t (u, x, y, z, s, cs, o, r, q) = rw q (record { no_own = refl; no_cells = refl })
  body_lead (while e c b) t (u, x, z, s, cs, ne, r, q) = rw q (record { no_own = refl; no_cells = refl })

-- the own line, and the cells line
unfoldable own_of : ℕ → List ℕ → List (List ℕ) × List ℕ
own_of n t = cond (same_bytes (codes "own") (front word_byte t)) (names_of n (back word_byte t)) ([], t)

unfoldable cells_of : List ℕ → ℕ × List ℕ
cells_of t = cond (same_bytes (codes "cells") (front word_byte t)) (decimal 0 (front word_byte (drop 6 t)), drop 1 (back word_byte (drop 6 t))) (0, t)

cells-back : (s : ℕ) (h x : List ℕ) → CellsLine s h → BodyLead x → cells_of (h ++ x) ≡ (s, x)
unfolding cells_of same_bytes
cells-back s h x (inl p) l = rw (p.1, l.no_cells, p.0)
cells-back s h x (inr (u, i, q)) l =
    let w = each_weaken digit word_byte digit-word u i.bytes in
    rw (q, append_assoc u (10 ∷ []) x, front-run word_byte u (10 ∷ x) w refl, back-run word_byte u (10 ∷ x) w refl, i.value)

no-own_cells : (s : ℕ) (h x : List ℕ) → CellsLine s h → BodyLead x → same_bytes (codes "own") (front word_byte (h ++ x)) ≡ false
unfolding same_bytes
no-own_cells s h x (inl p) l = rw p.1 l.no_own
no-own_cells s h x (inr (u, i, q)) l = rw q

own_back : (ns : List (List ℕ)) (h x : List ℕ) (n : ℕ) → OwnLine ns h → Names ns → length ns < n → same_bytes (codes "own") (front word_byte x) ≡ false → own_of n (h ++ x) ≡ (ns, x)
unfolding own_of same_bytes
own_back ns h x n (inl p) i m l = rw (p.1, l, p.0)
own_back [] h x n (inr p) i m l = absurd (p.0 refl)
own_back (u ∷ ns) h x n (inr p) i m l =
    rw (p.1, append_assoc (flat_map (λ u. 32 ∷ u) (u ∷ ns)) (10 ∷ []) x) (names-back (u ∷ ns) x n i m)

module _ (ns : List (List ℕ)) (p : Program) (text : List ℕ) (s : Spelled (Named ns) ns p text) where
  lead : BodyLead s.body_part
  lead = body_lead (Named ns) (named-names ns s.names) p.body s.body_part s.body

  own_read : (n : ℕ) → length ns < n → own_of n text ≡ (ns, s.cells_part ++ s.body_part)
  own_read n h = rw s.whole (own_back ns s.own_part (s.cells_part ++ s.body_part) n s.own_line s.names h (no-own_cells p.shared s.cells_part s.body_part s.cells_line lead))

  cells_read : cells_of (s.cells_part ++ s.body_part) ≡ (p.shared, s.body_part)
  cells_read = cells-back p.shared s.cells_part s.body_part s.cells_line lead

names_same : (ns ms : List (List ℕ)) (p q : Program) (text : List ℕ) → Spelled (Named ns) ns p text → Spelled (Named ms) ms q text → ns ≡ ms
names_same ns ms p q text s t = ap (λ (x : List (List ℕ) × List ℕ). x.0) (sym (own_read ns p text s (suc (length ns + length ms)) (omega arith)) ∙ own_read ms q text t (suc (length ns + length ms)) (omega arith))

same-program : (p q : Program) → p.body ≡ q.body → p.owns ≡ q.owns → p.shared ≡ q.shared → p ≡ q
same-program p q a b c = λ i. record { body = a i; owns = b i; shared = c i }

one_same : (ns : List (List ℕ)) (p q : Program) (text : List ℕ) → Distinct ns → Spelled (Named ns) ns p text → Spelled (Named ns) ns q text → p ≡ q
unfolding same_bytes
one_same ns p q text d s t =
    let rest : s.cells_part ++ s.body_part ≡ t.cells_part ++ t.body_part =
    ap (λ (x : List (List ℕ) × List ℕ). x.1) (sym (own_read ns p text s (suc (length ns)) (omega arith)) ∙ own_read ns q text t (suc (length ns)) (omega arith)) in
    let cells : (p.shared, s.body_part) ≡ (q.shared, t.body_part) = sym (cells_read ns p text s) ∙ (ap cells_of rest ∙ cells_read ns q text t) in
    let bodies : s.body_part ≡ t.body_part = ap (λ (x : ℕ × List ℕ). x.1) cells in
    let n : ℕ = body_height p.body + body_height q.body in
    let i = named-names ns s.names in
    let f = place_found ns d in
    let go : List ℕ → Body × List ℕ = body_of (place_in ns) (Named ns) i f n in
    let a = body_back (place_in ns) (Named ns) i f p.body s.body_part [] n s.body refl (omega arith) in
    let b = body_back (place_in ns) (Named ns) i f q.body t.body_part [] n t.body refl (omega arith) in
    same-program p q
    (ap (λ (x : Body × List ℕ). x.0) (sym a ∙ (ap (λ (x : List ℕ). go (x ++ [])) bodies ∙ b)))
    (s.owned ∙ sym t.owned)
    (ap (λ (x : ℕ × List ℕ). x.0) cells)

pub one-program : OneProgram
one-program ns ms p q text dn dm s t =
    let e = names_same ns ms p q text s t in
    (e, one_same ns p q text dn s (subst (λ (xs : List (List ℕ)). Spelled (Named xs) xs q text) (sym e) t))
