-- What words of an expression are worth.
use Rattle.std.proofs.Common.{◌≡◌, ℕ, ◌+◌, ◌<◌, ◌≤◌, List, length, Some, None, get_or, sym, ap, ◌∙◌, subst, arith}
use Rattle.std.proofs.lemmas.List.{get_or_past}
use Rattle.lanes.specs.Syntax.{Expr}
use Rattle.lanes.specs.Step.{value}
use Rattle.values.specs.declared.ops.Op.{Op}
use Rattle.values.specs.declared.leaves.Leaf.{Leaf}
use Rattle.values.specs.declared.row.Row.{Row}
use Rattle.values.specs.declared.items.Item.TheVariants.{Word, Apply}
use Rattle.values.specs.Ops.{op_of, Applied}
use Rattle.values.specs.Rows.{Values, LeafWorth}
use Rattle.values.specs.Items.{item_of, Coded, Unpacked}
use Rattle.values.proofs.Bracketed.{value-node}
use Rattle.values.proofs.Coding.{NodeCoded, coded_word, coded_apply, coded_none}

pub unpacked-none : (ws : List ℕ) (i : ℕ) (r : Row) (out : List ℕ) → item_of (get_or ws i 0) ≡ None → Unpacked ws i r out i
unpacked-none ws i r out q =
    record {
      from = omega arith;
      within = λ h. h;
      stop = λ e k c. absurd (coded_none r.owns ws i k q e c);
      each = λ e k c. absurd (coded_none r.owns ws i k q e c);
    }

pub unpacked-past : (ws : List ℕ) (i : ℕ) (r : Row) (out : List ℕ) → length ws ≤ i → Unpacked ws i r out i
unpacked-past ws i r out h = unpacked-none ws i r out (ap item_of (get_or_past ws i 0 h))

pub unpacked-word : (ws : List ℕ) (i : ℕ) (r : Row) (out : List ℕ) (leaf : Leaf) → i < length ws → item_of (get_or ws i 0) ≡ Some (Word leaf) → LeafWorth leaf r out → Unpacked ws i r out (i + 1)
unpacked-word ws i r out leaf h q worth =
    record {
      from = omega arith;
      within = λ _. omega arith;
      stop = λ e k c. sym (coded_word r.owns ws i k leaf q e c).1;
      each = λ e k c. worth e (coded_word r.owns ws i k leaf q e c).0;
    }

module _ (ws : List ℕ) (i : ℕ) (r : Row) (out : List ℕ) (mid : ℕ) (right : List ℕ) (end : ℕ) (op : Op) (all : List ℕ) (here : i < length ws) (q : item_of (get_or ws i 0) ≡ Some (Apply op)) (one : Unpacked ws (i + 1) r out mid) (two : Unpacked ws mid r right end) (wide : length right ≡ length out) (done : Applied op out right all) where
  module _ (e : Expr) (j : ℕ) (c : Coded r.owns ws i e j) where
    parts : NodeCoded r.owns ws i op e j
    parts = coded_apply r.owns ws i j op q e c

    mid-is : mid ≡ parts.mid
    mid-is = one.stop parts.left parts.mid parts.first

    right_there : Coded r.owns ws mid parts.right j
    right_there = subst (λ (m : ℕ). Coded r.owns ws m parts.right j) (sym mid-is) parts.second

    worth : Values r e all
    unfolding Values
    worth k hk v o =
        let p = parts in
        let val : Expr → ℕ = value v (r.first + k) r.group r.lanes in
        let a : get_or out k 0 ≡ val p.left = one.each p.left p.mid p.first k (omega (arith, done.long)) v o in
        let b : get_or right k 0 ≡ val p.right = two.each p.right j right_there k (omega (arith, done.long)) v o in
        done.each k (omega (arith, done.long)) (omega (arith, done.long))
        ∙ ap (λ x. op_of op x (get_or right k 0)) a ∙ ap (λ y. op_of op (val p.left) y) b
        ∙ sym (value-node op v (r.first + k) r.group r.lanes p.left p.right) ∙ ap val (sym p.is)

  pub unpacked-apply : Unpacked ws i r all end
  unpacked-apply =
      record {
        from = omega (arith, one.from, two.from);
        within = λ _. two.within (one.within (omega arith));
        stop = λ e k c. two.stop (parts e k c).right k (right_there e k c);
        each = worth;
      }
