-- Expressions as words: what stands where a word is of one kind or the other, and that it stands there as long as the words stay.
use Rattle.std.proofs.Common.{◌≡◌, ℕ, ◌+◌, ◌<◌, ◌≤◌, List, Some, None, Option, get_or, sym, refl, ap, ◌∙◌, subst, arith}
use Rattle.lanes.specs.Syntax.{Expr, fixed, var, lane, group, lanes, plus, minus, times, over, rest_of, less, same}
use Rattle.values.specs.declared.ops.Op.{Op}
use Rattle.values.specs.declared.ops.Op.TheVariants.{Plus, Minus, Times, Over, Rest, Less, Same}
use Rattle.values.specs.declared.leaves.Leaf.{Leaf}
use Rattle.values.specs.declared.leaves.Leaf.TheVariants.{Fixed, Own, Lane, Group, Lanes}
use Rattle.values.specs.declared.items.Item.{Item}
use Rattle.values.specs.declared.items.Item.TheVariants.{Word, Apply}
use Rattle.values.specs.Ops.{node}
use Rattle.values.specs.Worth.{LeafIs}
use Rattle.values.specs.Items.{item_of, LeafCoded, Coded}

same-leaf : (x : Option Item) (k l : Leaf) → x ≡ Some (Word k) → x ≡ Some (Word l) → k ≡ l
same-leaf x k l p q = cc

same_op : (x : Option Item) (o p : Op) → x ≡ Some (Apply o) → x ≡ Some (Apply p) → o ≡ p
same_op x o p q r = cc

not-both : (x : Option Item) (l : Leaf) (o : Op) → x ≡ Some (Word l) → x ≡ Some (Apply o) → ⊥
not-both x l o p q = cc

nothing : (x : Option Item) (y : Item) → x ≡ None → x ≡ Some y → ⊥
nothing x y p q = cc

-- Two expressions behind an operator.
pub record NodeCoded (owns : ℕ) (ws : List ℕ) (i : ℕ) (op : Op) (e : Expr) (j : ℕ) : Type 0 where
  pub left : Expr
  pub right : Expr
  pub mid : ℕ
  pub is : e ≡ node op left right
  pub first : Coded owns ws (i + 1) left mid
  pub second : Coded owns ws mid right j

module _ (owns : ℕ) (ws : List ℕ) (i j : ℕ) where
  leaf_word : (leaf : Leaf) → item_of (get_or ws i 0) ≡ Some (Word leaf) → (e : Expr) → LeafCoded owns ws i e j → LeafIs owns leaf e × (j ≡ i + 1)
  leaf_word leaf q e c = (subst (λ (l : Leaf). LeafIs owns l e) (same-leaf _ c.leaf leaf c.item q) c.is, c.next)

  -- A leaf's word.
  pub coded_word : (leaf : Leaf) → item_of (get_or ws i 0) ≡ Some (Word leaf) → (e : Expr) → Coded owns ws i e j → LeafIs owns leaf e × (j ≡ i + 1)
  unfolding Coded
  coded_word leaf q (fixed a) c = leaf_word leaf q (fixed a) c
  coded_word leaf q (var k) c = leaf_word leaf q (var k) c
  coded_word leaf q lane c = leaf_word leaf q lane c
  coded_word leaf q group c = leaf_word leaf q group c
  coded_word leaf q lanes c = leaf_word leaf q lanes c
  coded_word leaf q (plus e f) c = absurd (not-both _ leaf Plus q c.1)
  coded_word leaf q (minus e f) c = absurd (not-both _ leaf Minus q c.1)
  coded_word leaf q (times e f) c = absurd (not-both _ leaf Times q c.1)
  coded_word leaf q (over e f) c = absurd (not-both _ leaf Over q c.1)
  coded_word leaf q (rest_of e f) c = absurd (not-both _ leaf Rest q c.1)
  coded_word leaf q (less e f) c = absurd (not-both _ leaf Less q c.1)
  coded_word leaf q (same e f) c = absurd (not-both _ leaf Same q c.1)

  -- An operator's word.
  pub coded_apply : (op : Op) → item_of (get_or ws i 0) ≡ Some (Apply op) → (e : Expr) → Coded owns ws i e j → NodeCoded owns ws i op e j
  unfolding Coded
  coded_apply op q (fixed a) c = absurd (not-both _ c.leaf op c.item q)
  coded_apply op q (var k) c = absurd (not-both _ c.leaf op c.item q)
  coded_apply op q lane c = absurd (not-both _ c.leaf op c.item q)
  coded_apply op q group c = absurd (not-both _ c.leaf op c.item q)
  coded_apply op q lanes c = absurd (not-both _ c.leaf op c.item q)
  coded_apply op q (plus e f) c = record { left = e; right = f; mid = c.0; is = ap (λ o. node o e f) (same_op _ Plus op c.1 q); first = c.2; second = c.3 }
  coded_apply op q (minus e f) c = record { left = e; right = f; mid = c.0; is = ap (λ o. node o e f) (same_op _ Minus op c.1 q); first = c.2; second = c.3 }
  coded_apply op q (times e f) c = record { left = e; right = f; mid = c.0; is = ap (λ o. node o e f) (same_op _ Times op c.1 q); first = c.2; second = c.3 }
  coded_apply op q (over e f) c = record { left = e; right = f; mid = c.0; is = ap (λ o. node o e f) (same_op _ Over op c.1 q); first = c.2; second = c.3 }
  coded_apply op q (rest_of e f) c = record { left = e; right = f; mid = c.0; is = ap (λ o. node o e f) (same_op _ Rest op c.1 q); first = c.2; second = c.3 }
  coded_apply op q (less e f) c = record { left = e; right = f; mid = c.0; is = ap (λ o. node o e f) (same_op _ Less op c.1 q); first = c.2; second = c.3 }
  coded_apply op q (same e f) c = record { left = e; right = f; mid = c.0; is = ap (λ o. node o e f) (same_op _ Same op c.1 q); first = c.2; second = c.3 }

  -- Any other word.
  pub coded_none : item_of (get_or ws i 0) ≡ None → (e : Expr) → Coded owns ws i e j → ⊥
  unfolding Coded
  coded_none q (fixed a) c = nothing _ (Word c.leaf) q c.item
  coded_none q (var k) c = nothing _ (Word c.leaf) q c.item
  coded_none q lane c = nothing _ (Word c.leaf) q c.item
  coded_none q group c = nothing _ (Word c.leaf) q c.item
  coded_none q lanes c = nothing _ (Word c.leaf) q c.item
  coded_none q (plus e f) c = nothing _ (Apply Plus) q c.1
  coded_none q (minus e f) c = nothing _ (Apply Minus) q c.1
  coded_none q (times e f) c = nothing _ (Apply Times) q c.1
  coded_none q (over e f) c = nothing _ (Apply Over) q c.1
  coded_none q (rest_of e f) c = nothing _ (Apply Rest) q c.1
  coded_none q (less e f) c = nothing _ (Apply Less) q c.1
  coded_none q (same e f) c = nothing _ (Apply Same) q c.1

-- An expression is one word at least.
pub coded-on : (owns : ℕ) (ws : List ℕ) (e : Expr) (i j : ℕ) → Coded owns ws i e j → i < j
unfolding Coded
coded-on owns ws (fixed a) i j c = omega (arith, c.next)
coded-on owns ws (var k) i j c = omega (arith, c.next)
coded-on owns ws lane i j c = omega (arith, c.next)
coded-on owns ws group i j c = omega (arith, c.next)
coded-on owns ws lanes i j c = omega (arith, c.next)
coded-on owns ws (plus e f) i j c = omega (arith, coded-on owns ws e (i + 1) c.0 c.2, coded-on owns ws f c.0 j c.3)
coded-on owns ws (minus e f) i j c = omega (arith, coded-on owns ws e (i + 1) c.0 c.2, coded-on owns ws f c.0 j c.3)
coded-on owns ws (times e f) i j c = omega (arith, coded-on owns ws e (i + 1) c.0 c.2, coded-on owns ws f c.0 j c.3)
coded-on owns ws (over e f) i j c = omega (arith, coded-on owns ws e (i + 1) c.0 c.2, coded-on owns ws f c.0 j c.3)
coded-on owns ws (rest_of e f) i j c = omega (arith, coded-on owns ws e (i + 1) c.0 c.2, coded-on owns ws f c.0 j c.3)
coded-on owns ws (less e f) i j c = omega (arith, coded-on owns ws e (i + 1) c.0 c.2, coded-on owns ws f c.0 j c.3)
coded-on owns ws (same e f) i j c = omega (arith, coded-on owns ws e (i + 1) c.0 c.2, coded-on owns ws f c.0 j c.3)

-- It stands there as long as its words stay.
abbrev Keeps : List ℕ → List ℕ → (ℕ → ℕ → List ℕ → Type 0) → Type 0
Keeps ws xs C = (i j : ℕ) → ((k : ℕ) → i ≤ k → k < j → get_or xs k 0 ≡ get_or ws k 0) → C i j ws → C i j xs

leaf_kept : (owns : ℕ) (ws xs : List ℕ) (e : Expr) → Keeps ws xs (λ i j ws. LeafCoded owns ws i e j)
leaf_kept owns ws xs e i j h c = record { leaf = c.leaf; item = ap item_of (h i (omega arith) (omega (arith, c.next))) ∙ c.item; is = c.is; next = c.next }

node_kept : (owns : ℕ) (ws xs : List ℕ) (op : Op) (e f : Expr) → Keeps ws xs (λ i j ws. Coded owns ws i e j) → Keeps ws xs (λ i j ws. Coded owns ws i f j) →
    Keeps ws xs (λ i j ws. (m : ℕ) × (item_of (get_or ws i 0) ≡ Some (Apply op)) × Coded owns ws (i + 1) e m × Coded owns ws m f j)
node_kept owns ws xs op e f left right i j h c =
    let a : i + 1 < c.0 = coded-on owns ws e (i + 1) c.0 c.2 in
    let b : c.0 < j = coded-on owns ws f c.0 j c.3 in (
      c.0,
      ap item_of (h i (omega arith) (omega arith)) ∙ c.1,
      left (i + 1) c.0 (λ k p q. h k (omega arith) (omega arith)) c.2,
      right c.0 j (λ k p q. h k (omega arith) q) c.3,
    )

pub coded_kept : (owns : ℕ) (ws xs : List ℕ) (e : Expr) (i j : ℕ) → ((k : ℕ) → i ≤ k → k < j → get_or xs k 0 ≡ get_or ws k 0) → Coded owns ws i e j → Coded owns xs i e j
unfolding Coded
coded_kept owns ws xs (fixed a) = leaf_kept owns ws xs (fixed a)
coded_kept owns ws xs (var k) = leaf_kept owns ws xs (var k)
coded_kept owns ws xs lane = leaf_kept owns ws xs lane
coded_kept owns ws xs group = leaf_kept owns ws xs group
coded_kept owns ws xs lanes = leaf_kept owns ws xs lanes
coded_kept owns ws xs (plus e f) = node_kept owns ws xs Plus e f (coded_kept owns ws xs e) (coded_kept owns ws xs f)
coded_kept owns ws xs (minus e f) = node_kept owns ws xs Minus e f (coded_kept owns ws xs e) (coded_kept owns ws xs f)
coded_kept owns ws xs (times e f) = node_kept owns ws xs Times e f (coded_kept owns ws xs e) (coded_kept owns ws xs f)
coded_kept owns ws xs (over e f) = node_kept owns ws xs Over e f (coded_kept owns ws xs e) (coded_kept owns ws xs f)
coded_kept owns ws xs (rest_of e f) = node_kept owns ws xs Rest e f (coded_kept owns ws xs e) (coded_kept owns ws xs f)
coded_kept owns ws xs (less e f) = node_kept owns ws xs Less e f (coded_kept owns ws xs e) (coded_kept owns ws xs f)
coded_kept owns ws xs (same e f) = node_kept owns ws xs Same e f (coded_kept owns ws xs e) (coded_kept owns ws xs f)

-- An operator before two expressions.
pub coded-node : (op : Op) (owns : ℕ) (ws : List ℕ) (i m j : ℕ) (e f : Expr) → item_of (get_or ws i 0) ≡ Some (Apply op) → Coded owns ws (i + 1) e m → Coded owns ws m f j → Coded owns ws i (node op e f) j
unfolding Coded
coded-node Plus owns ws i m j e f q c d = (m, q, c, d)
coded-node Minus owns ws i m j e f q c d = (m, q, c, d)
coded-node Times owns ws i m j e f q c d = (m, q, c, d)
coded-node Over owns ws i m j e f q c d = (m, q, c, d)
coded-node Rest owns ws i m j e f q c d = (m, q, c, d)
coded-node Less owns ws i m j e f q c d = (m, q, c, d)
coded-node Same owns ws i m j e f q c d = (m, q, c, d)

-- A leaf's word alone.
pub coded-leaf : (owns : ℕ) (ws : List ℕ) (i : ℕ) (leaf : Leaf) (e : Expr) → item_of (get_or ws i 0) ≡ Some (Word leaf) → LeafIs owns leaf e → Coded owns ws i e (i + 1)
unfolding Coded
coded-leaf owns ws i (Fixed a) e q is = subst (λ (x : Expr). Coded owns ws i x (i + 1)) (sym is.1) record { leaf = Fixed a; item = q; is = (is.0, refl, is.2); next = refl }
coded-leaf owns ws i (Own k) e q is = subst (λ (x : Expr). Coded owns ws i x (i + 1)) (sym is.0) record { leaf = Own k; item = q; is = (refl, is.1); next = refl }
coded-leaf owns ws i Lane e q is = subst (λ (x : Expr). Coded owns ws i x (i + 1)) (sym is) record { leaf = Lane; item = q; is = refl; next = refl }
coded-leaf owns ws i Group e q is = subst (λ (x : Expr). Coded owns ws i x (i + 1)) (sym is) record { leaf = Group; item = q; is = refl; next = refl }
coded-leaf owns ws i Lanes e q is = subst (λ (x : Expr). Coded owns ws i x (i + 1)) (sym is) record { leaf = Lanes; item = q; is = refl; next = refl }
