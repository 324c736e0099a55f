-- Reading lines as a function of the bytes: what spells a body is read as it.
use Rattle.std.proofs.Common.{◌≡◌, ℕ, zero, suc, ◌+◌, ◌≤◌, Bool, true, false, cond, ◌||◌, eqb, ◌⊎◌, List, [], ◌∷◌, ◌++◌, length, drop, codes, refl, ◌∙◌, inl, inr, not-suc-le-zero, arith}
use Rattle.std.proofs.lemmas.List.{append_assoc}
use Rattle.std.proofs.lemmas.Bool.{and_parts}
use Rattle.std.proofs.lemmas.Bool.Decides.{nat_tests}
use Rattle.lanes.specs.Syntax.{Expr, fixed, var, lane, group, lanes, plus, minus, times, over, rest_of, less, same, Body, end, put, read_shared, write_shared, read_all, write_all, barrier, when, while}
use Rattle.grammar.specs.Spelling.{digit, word_byte, each_byte, same_bytes, IsName, infix_of, SpellsExpr, SpellsBody}
use Rattle.grammar.specs.Stands.{Apart}
use Rattle.grammar.proofs.Bytewise.{digit-word, each_weaken}
use Rattle.writer.proofs.Parses.{front, back, front-run, back-run, height, name-unlike, parsed, read_back}

-- a block of lines ends here: the text ends, or an else or an end comes
abbrev pub stops : List ℕ → Bool
stops t = same_bytes [] t || (same_bytes (codes "end") (front word_byte t) || same_bytes (codes "else") (front word_byte t))

unfoldable pub body_height : Body → ℕ
body_height end = 0
body_height (put k e b) = suc (height e + body_height b)
body_height (read_shared k e b) = suc (height e + body_height b)
body_height (write_shared e f b) = suc (height e + (height f + body_height b))
body_height (read_all k e b) = suc (height e + body_height b)
body_height (write_all e f b) = suc (height e + (height f + body_height b))
body_height (barrier b) = suc (body_height b)
body_height (when e c d b) = suc (height e + (body_height c + (body_height d + body_height b)))
body_height (while e c b) = suc (height e + (body_height c + body_height b))

not-empty : (a x : List ℕ) → 1 ≤ length a → same_bytes [] (a ++ x) ≡ false
unfolding same_bytes
not-empty [] x h = absurd (not-suc-le-zero h)
not-empty (b ∷ a) x h = refl

not_letter : (b : ℕ) → digit b ≡ true → (eqb 99 b ≡ false) × (eqb 102 b ≡ false)
not_letter b e = (grind (arith, nat_tests), grind (arith, nat_tests))

digit-unlike : (u : List ℕ) → 1 ≤ length u → each_byte digit u ≡ true → (same_bytes (codes "cell") u ≡ false) × (same_bytes (codes "field") u ≡ false)
unfolding same_bytes each_byte
digit-unlike [] s w = absurd (not-suc-le-zero s)
digit-unlike (b ∷ u) s w = let n = not_letter b (and_parts (digit b) (each_byte digit u) w).0 in (rw n.0, rw n.1)

module _ (find : List ℕ → ℕ) (N : ℕ → List ℕ → Type 0) (is_name : (k : ℕ) (u : List ℕ) → N k u → IsName u) (found : (k : ℕ) (u : List ℕ) → N k u → find u ≡ k) where
  -- one expression and the lines behind; two, with " = " between; each from the byte behind the first word
  one_line : ℕ → (List ℕ → Body × List ℕ) → (Expr → Body → Body) → List ℕ → Body × List ℕ
  one_line n go mk t = (mk (parsed find n t).0 (go (drop 1 (parsed find n t).1)).0, (go (drop 1 (parsed find n t).1)).1)

  two_line : ℕ → (List ℕ → Body × List ℕ) → (Expr → Expr → Body → Body) → List ℕ → Body × List ℕ
  two_line n go mk t = one_line n go (mk (parsed find n t).0) (drop 3 (parsed find n t).1)

  -- behind the first lines of an if: an else with its lines, or none; then the end
  else_part : (List ℕ → Body × List ℕ) → (Body → Body → Body) → List ℕ → Body × List ℕ
  else_part go mk t =
      cond (same_bytes (codes "else") (front word_byte t)) (mk (go (drop 5 t)).0 (go (drop 4 (go (drop 5 t)).1)).0, (go (drop 4 (go (drop 5 t)).1)).1)
      (mk end (go (drop 4 t)).0, (go (drop 4 t)).1)

  if-part : ℕ → (List ℕ → Body × List ℕ) → List ℕ → Body × List ℕ
  if-part n go t = else_part go (when (parsed find n t).0 (go (drop 1 (parsed find n t).1)).0) (go (drop 1 (parsed find n t).1)).1

  while-part : ℕ → (List ℕ → Body × List ℕ) → List ℕ → Body × List ℕ
  while-part n go t =
      let c : Body × List ℕ = go (drop 1 (parsed find n t).1) in
      (while (parsed find n t).0 c.0 (go (drop 4 c.1)).0, (go (drop 4 c.1)).1)

  name-part : ℕ → (List ℕ → Body × List ℕ) → ℕ → List ℕ → Body × List ℕ
  name-part n go k t =
      cond (same_bytes (codes "cell") (front word_byte t)) (one_line n go (read_shared k) (drop 5 t))
      (cond (same_bytes (codes "field") (front word_byte t)) (one_line n go (read_all k) (drop 6 t)) (one_line n go (put k) t))

  by_word : ℕ → (List ℕ → Body × List ℕ) → List ℕ → List ℕ → Body × List ℕ
  by_word n go w t =
      cond (same_bytes (codes "cell") w) (two_line n go write_shared (drop 1 t))
      (cond (same_bytes (codes "field") w) (two_line n go write_all (drop 1 t))
      (cond (same_bytes (codes "barrier") w) (barrier (go (drop 1 t)).0, (go (drop 1 t)).1)
      (cond (same_bytes (codes "if") w) (if-part n go (drop 1 t)) (cond (same_bytes (codes "while") w) (while-part n go (drop 1 t)) (name-part n go (find w) (drop 3 t))))))

  pub body_of : ℕ → List ℕ → Body × List ℕ
  body_of zero t = (end, t)
  body_of (suc n) t = cond (stops t) (end, t) (by_word n (body_of n) (front word_byte t) (back word_byte t))

  one-read : (n : ℕ) (go : List ℕ → Body × List ℕ) (mk : Expr → Body → Body) (e : Expr) (b : Body) (u y z : List ℕ) → SpellsExpr N e u → height e ≤ n → go (y ++ z) ≡ (b, z) →
      one_line n go mk (u ++ (10 ∷ (y ++ z))) ≡ (mk e b, z)
  unfolding one_line
  one-read n go mk e b u y z s h r = rw (read_back find N is_name found e u (10 ∷ (y ++ z)) n s refl h, r)

  two-read : (n : ℕ) (go : List ℕ → Body × List ℕ) (mk : Expr → Expr → Body → Body) (e f : Expr) (b : Body) (u v y z : List ℕ) → SpellsExpr N e u → SpellsExpr N f v → height e + height f ≤ n → go (y ++ z) ≡ (b, z) →
      two_line n go mk (u ++ (codes " = " ++ (v ++ (10 ∷ (y ++ z))))) ≡ (mk e f b, z)
  unfolding two_line
  two-read n go mk e f b u v y z s t h r = rw (read_back find N is_name found e u (codes " = " ++ (v ++ (10 ∷ (y ++ z)))) n s refl (omega arith)) (one-read n go (mk e) f b v y z t (omega arith) r)

  -- the first word of an expression is neither cell nor field
  record Lead (t : List ℕ) : Type 0 where
    no_cell : same_bytes (codes "cell") (front word_byte t) ≡ false
    no_field : same_bytes (codes "field") (front word_byte t) ≡ false

  lead_bracket : (u v : List ℕ) (b : ℕ) (t z : List ℕ) → t ≡ infix_of u b v → Lead (t ++ z)
  unfolding same_bytes
  lead_bracket u v b t z q = rw q (record { no_cell = refl; no_field = refl })

  lead_of : (e : Expr) (u z : List ℕ) → SpellsExpr N e u → Apart z → Lead (u ++ z)
  unfolding SpellsExpr same_bytes
  lead_of (fixed a) u z s h =
      let r = front-run word_byte u z (each_weaken digit word_byte digit-word u s.bytes) h in
      let d = digit-unlike u s.some s.bytes in record { no_cell = rw r d.0; no_field = rw r d.1 }
  lead_of (var k) u z s h =
      let r = front-run word_byte u z (is_name k u s).bytes h in
      let n = name-unlike u (is_name k u s).free in record { no_cell = rw r n.cell; no_field = rw r n.field }
  lead_of lane u z s h = rw s (record { no_cell = refl; no_field = refl })
  lead_of group u z s h = rw s (record { no_cell = refl; no_field = refl })
  lead_of lanes u z s h = rw s (record { no_cell = refl; no_field = refl })
  lead_of (plus e f) w z (u, v, s, t, q) h = lead_bracket u v 43 w z q
  lead_of (minus e f) w z (u, v, s, t, q) h = lead_bracket u v 45 w z q
  lead_of (times e f) w z (u, v, s, t, q) h = lead_bracket u v 42 w z q
  lead_of (over e f) w z (u, v, s, t, q) h = lead_bracket u v 47 w z q
  lead_of (rest_of e f) w z (u, v, s, t, q) h = lead_bracket u v 37 w z q
  lead_of (less e f) w z (u, v, s, t, q) h = lead_bracket u v 60 w z q
  lead_of (same e f) w z (u, v, s, t, q) h = lead_bracket u v 61 w z q

  -- a line that begins with a name
  name_line : (k n : ℕ) (a x : List ℕ) → N k a → body_of (suc n) (a ++ (codes " = " ++ x)) ≡ name-part n (body_of n) k x
  unfolding body_of by_word
  name_line k n a x h =
      let i = is_name k a h in
      let w = name-unlike a i.free in
      let e : same_bytes [] (a ++ (codes " = " ++ x)) ≡ false = not-empty a (codes " = " ++ x) i.some in
      rw (e, front-run word_byte a (codes " = " ++ x) i.bytes refl, back-run word_byte a (codes " = " ++ x) i.bytes refl, w.ends, w.elses, w.cell, w.field, w.bar, w.ifs, w.whiles, found k a h)

  if_read : (n : ℕ) (go : List ℕ → Body × List ℕ) (e : Expr) (c d b : Body) (u x y z w : List ℕ) → SpellsExpr N e u → height e ≤ n →
      go (x ++ (y ++ (codes "end" ++ (10 ∷ (z ++ w))))) ≡ (c, y ++ (codes "end" ++ (10 ∷ (z ++ w)))) →
      else_part go (when e c) (y ++ (codes "end" ++ (10 ∷ (z ++ w)))) ≡ (when e c d b, w) →
      if-part n go (u ++ (10 ∷ (x ++ (y ++ (codes "end" ++ (10 ∷ (z ++ w))))))) ≡ (when e c d b, w)
  unfolding if-part
  if_read n go e c d b u x y z w s h p q = rw (read_back find N is_name found e u (10 ∷ (x ++ (y ++ (codes "end" ++ (10 ∷ (z ++ w)))))) n s refl h, p) q

  while_read : (n : ℕ) (go : List ℕ → Body × List ℕ) (e : Expr) (c b : Body) (u x z w : List ℕ) → SpellsExpr N e u → height e ≤ n →
      go (x ++ (codes "end" ++ (10 ∷ (z ++ w)))) ≡ (c, codes "end" ++ (10 ∷ (z ++ w))) → go (z ++ w) ≡ (b, w) →
      while-part n go (u ++ (10 ∷ (x ++ (codes "end" ++ (10 ∷ (z ++ w)))))) ≡ (while e c b, w)
  unfolding while-part
  while_read n go e c b u x z w s h p q = rw (read_back find N is_name found e u (10 ∷ (x ++ (codes "end" ++ (10 ∷ (z ++ w))))) n s refl h, p, q)

  -- without an else, and with one
  no_else : (go : List ℕ → Body × List ℕ) (mk : Body → Body → Body) (b : Body) (z w : List ℕ) → go (z ++ w) ≡ (b, w) → else_part go mk (codes "end" ++ (10 ∷ (z ++ w))) ≡ (mk end b, w)
  unfolding else_part same_bytes
  no_else go mk b z w r = rw r

  some_else : (go : List ℕ → Body × List ℕ) (mk : Body → Body → Body) (d b : Body) (v z w : List ℕ) → go (v ++ (codes "end" ++ (10 ∷ (z ++ w)))) ≡ (d, codes "end" ++ (10 ∷ (z ++ w))) → go (z ++ w) ≡ (b, w) →
      else_part go mk (codes "else" ++ (10 ∷ (v ++ (codes "end" ++ (10 ∷ (z ++ w)))))) ≡ (mk d b, w)
  unfolding else_part same_bytes
  some_else go mk d b v z w p q = rw (p, q)

  -- a name's line with its expression
  put_read : (n k : ℕ) (go : List ℕ → Body × List ℕ) (e : Expr) (b : Body) (u y z : List ℕ) → SpellsExpr N e u → height e ≤ n → go (y ++ z) ≡ (b, z) → name-part n go k (u ++ (10 ∷ (y ++ z))) ≡ (put k e b, z)
  unfolding name-part
  put_read n k go e b u y z s h r = let l = lead_of e u (10 ∷ (y ++ z)) s refl in rw (l.no_cell, l.no_field) (one-read n go (put k) e b u y z s h r)

  cell_read : (n k : ℕ) (go : List ℕ → Body × List ℕ) (e : Expr) (b : Body) (u y z : List ℕ) → SpellsExpr N e u → height e ≤ n → go (y ++ z) ≡ (b, z) → name-part n go k (codes "cell " ++ (u ++ (10 ∷ (y ++ z)))) ≡ (read_shared k e b, z)
  unfolding name-part same_bytes
  cell_read n k go e b u y z s h r = one-read n go (read_shared k) e b u y z s h r

  field_read : (n k : ℕ) (go : List ℕ → Body × List ℕ) (e : Expr) (b : Body) (u y z : List ℕ) → SpellsExpr N e u → height e ≤ n → go (y ++ z) ≡ (b, z) → name-part n go k (codes "field " ++ (u ++ (10 ∷ (y ++ z)))) ≡ (read_all k e b, z)
  unfolding name-part same_bytes
  field_read n k go e b u y z s h r = one-read n go (read_all k) e b u y z s h r

  at_stop : (w : List ℕ) (n : ℕ) → stops w ≡ true → body_of n w ≡ (end, w)
  unfolding body_of
  at_stop w zero h = refl
  at_stop w (suc n) h = rw h

  -- a line that begins with a word of the language
  cell_line : (n : ℕ) (x : List ℕ) → body_of (suc n) (codes "cell " ++ x) ≡ two_line n (body_of n) write_shared x
  unfolding body_of by_word same_bytes
  cell_line n x = refl

  field_line : (n : ℕ) (x : List ℕ) → body_of (suc n) (codes "field " ++ x) ≡ two_line n (body_of n) write_all x
  unfolding body_of by_word same_bytes
  field_line n x = refl

  barrier_line : (n : ℕ) (x : List ℕ) → body_of (suc n) (codes "barrier" ++ (10 ∷ x)) ≡ (barrier (body_of n x).0, (body_of n x).1)
  unfolding body_of by_word same_bytes
  barrier_line n x = refl

  if_line : (n : ℕ) (x : List ℕ) → body_of (suc n) (codes "if " ++ x) ≡ if-part n (body_of n) x
  unfolding body_of by_word same_bytes
  if_line n x = refl

  while_line : (n : ℕ) (x : List ℕ) → body_of (suc n) (codes "while " ++ x) ≡ while-part n (body_of n) x
  unfolding body_of by_word same_bytes
  while_line n x = refl

  -- what stands before the end of an if: nothing, or an else with its lines
  abbrev ElseLines : Body → List ℕ → Type 0
  ElseLines d y = ((d ≡ end) × (y ≡ [])) ⊎ ((v : List ℕ) × SpellsBody N d v × (y ≡ codes "else" ++ (10 ∷ v)))

  stop-end : (x : List ℕ) → stops (codes "end" ++ (10 ∷ x)) ≡ true
  unfolding same_bytes
  stop-end x = refl

  stop-there : (d : Body) (y z w : List ℕ) → ElseLines d y → stops (y ++ (codes "end" ++ (10 ∷ (z ++ w)))) ≡ true
  unfolding same_bytes
  stop-there d y z w (inl p) = rw p.1
  stop-there d y z w (inr p) = rw p.2

  else-there : (n : ℕ) (mk : Body → Body → Body) (d b : Body) (y z w : List ℕ) → ElseLines d y →
      ((v : List ℕ) → SpellsBody N d v → body_of n (v ++ (codes "end" ++ (10 ∷ (z ++ w)))) ≡ (d, codes "end" ++ (10 ∷ (z ++ w)))) → body_of n (z ++ w) ≡ (b, w) →
      else_part (body_of n) mk (y ++ (codes "end" ++ (10 ∷ (z ++ w)))) ≡ (mk d b, w)
  else-there n mk d b y z w (inl p) f g = rw (p.1, p.0) (no_else (body_of n) mk b z w g)
  else-there n mk d b y z w (inr p) f g = rw p.2 (some_else (body_of n) mk d b p.0 z w (f p.0 p.1) g)

  -- what spells a body, where a block ends behind it, is read as that body
  pub body_back : (b : Body) (t w : List ℕ) (n : ℕ) → SpellsBody N b t → stops w ≡ true → body_height b ≤ n → body_of n (t ++ w) ≡ (b, w)
  unfolding SpellsBody body_height
  body_back end t w n s h m = rw s (at_stop w n h)
  body_back (put k e b) t w zero s h m = absurd (not-suc-le-zero m)
  body_back (put k e b) t w (suc n) (a, u, z, i, s, r, q) h m =
      rw (q) (simp append_assoc (name_line k n a (u ++ (10 ∷ (z ++ w))) i ∙ put_read n k (body_of n) e b u z w s (omega arith) (body_back b z w n r h (omega arith))))
  body_back (read_shared k e b) t w zero s h m = absurd (not-suc-le-zero m)
  body_back (read_shared k e b) t w (suc n) (a, u, z, i, s, r, q) h m =
      rw (q) (simp append_assoc (name_line k n a (codes "cell " ++ (u ++ (10 ∷ (z ++ w)))) i ∙ cell_read n k (body_of n) e b u z w s (omega arith) (body_back b z w n r h (omega arith))))
  body_back (read_all k e b) t w zero s h m = absurd (not-suc-le-zero m)
  body_back (read_all k e b) t w (suc n) (a, u, z, i, s, r, q) h m =
      rw (q) (simp append_assoc (name_line k n a (codes "field " ++ (u ++ (10 ∷ (z ++ w)))) i ∙ field_read n k (body_of n) e b u z w s (omega arith) (body_back b z w n r h (omega arith))))
  body_back (write_shared e f b) t w zero s h m = absurd (not-suc-le-zero m)
  body_back (write_shared e f b) t w (suc n) (u, v, z, s, r, g, q) h m =
      rw (q) (simp append_assoc (cell_line n (u ++ (codes " = " ++ (v ++ (10 ∷ (z ++ w))))) ∙ two-read n (body_of n) write_shared e f b u v z w s r (omega arith) (body_back b z w n g h (omega arith))))
  body_back (write_all e f b) t w zero s h m = absurd (not-suc-le-zero m)
  body_back (write_all e f b) t w (suc n) (u, v, z, s, r, g, q) h m =
      rw (q) (simp append_assoc (field_line n (u ++ (codes " = " ++ (v ++ (10 ∷ (z ++ w))))) ∙ two-read n (body_of n) write_all e f b u v z w s r (omega arith) (body_back b z w n g h (omega arith))))
  body_back (barrier b) t w zero s h m = absurd (not-suc-le-zero m)
  body_back (barrier b) t w (suc n) (z, r, q) h m = rw (q) (barrier_line n (z ++ w) ∙ (rw (body_back b z w n r h (omega arith))))
  body_back (when e c d b) t w zero s h m = absurd (not-suc-le-zero m)
  body_back (when e c d b) t w (suc n) (u, x, y, z, s, cs, o, r, q) h m =
      rw (q) (simp append_assoc (if_line n (u ++ (10 ∷ (x ++ (y ++ (codes "end" ++ (10 ∷ (z ++ w))))))) ∙ if_read n (body_of n) e c d b u x y z w s (omega arith) (body_back c x (y ++ (codes "end" ++ (10 ∷ (z ++ w)))) n cs (stop-there d y z w o) (omega arith))
      (else-there n (when e c) d b y z w o (λ v i. body_back d v (codes "end" ++ (10 ∷ (z ++ w))) n i (stop-end (z ++ w)) (omega arith)) (body_back b z w n r h (omega arith)))))
  body_back (while e c b) t w zero s h m = absurd (not-suc-le-zero m)
  body_back (while e c b) t w (suc n) (u, x, z, s, cs, ne, r, q) h m =
      rw (q) (simp append_assoc (while_line n (u ++ (10 ∷ (x ++ (codes "end" ++ (10 ∷ (z ++ w)))))) ∙ while_read n (body_of n) e c b u x z w s (omega arith) (body_back c x (codes "end" ++ (10 ∷ (z ++ w))) n cs (stop-end (z ++ w)) (omega arith)) (body_back b z w n r h (omega arith))))
