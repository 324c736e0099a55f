-- Expressions of the text put into words.
use Rattle.std.proofs.Common.{◌≡◌, ℕ, ◌+◌, ◌<◌, ◌≤◌, ◌≢◌, List, length, Some, get_or, set, sym, ap, ◌∙◌, subst, arith}
use Rattle.std.specs.List.{between}
use Rattle.std.proofs.lemmas.List.{get_or-set_same, get_or-set_other}
use Rattle.lanes.specs.Syntax.{Expr}
use Rattle.grammar.specs.Spelling.{Named}
use Rattle.grammar.specs.Stands.{Stands}
use Rattle.grammar.specs.Names.{NamesIn, Distinct}
use Rattle.grammar.specs.Words.{WordEnd}
use Rattle.values.specs.declared.ops.Op.{Op}
use Rattle.values.specs.declared.leaves.Leaf.{Leaf}
use Rattle.values.specs.declared.items.Item.TheVariants.{Word, Apply}
use Rattle.values.specs.declared.packed.Behind.{Behind}
use Rattle.values.specs.Ops.{node, byte_of}
use Rattle.values.specs.Worth.{simple, LeafAt}
use Rattle.values.specs.Items.{item_of, Coded, Packed}
use Rattle.values.proofs.Spelt.{Halves, halves}
use Rattle.values.proofs.Standing.{is-bracket, word-stop, word-leaf, leaf-more}
use Rattle.values.proofs.Bracketed.{same_op, stands_left, stands_right, op-byte, long}
use Rattle.values.proofs.Coding.{coded-leaf, coded-node, coded_kept}

pub packed-word : (text : List ℕ) (i : ℕ) (ws : List ℕ) (from w j : ℕ) (leaf : Leaf) → get_or text i 0 ≢ 40 → WordEnd text i j → i ≤ length text → from < length ws → LeafAt simple text (between i j text) leaf → item_of w ≡ Some (Word leaf) →
    Packed text i (set ws from w) from record { byte = j; word = from + 1 }
packed-word text i ws from w j leaf h we here room at q =
    record {
      more = omega arith;
      inside = we.within here;
      stop = λ ns n di e s. word-stop ns text n i e s h j we;
      code = λ ns n di owns le e s.
          coded-leaf owns (set ws from w) from leaf e (ap item_of (get_or-set_same ws from w 0 room) ∙ q) (leaf-more (length ns) owns leaf e le (word-leaf ns text n i e s h j we leaf di at));
    }

module _ (text : List ℕ) (i : ℕ) (ws xs : List ℕ) (from w : ℕ) (op : Op) (left right : Behind) (bracket : get_or text i 0 ≡ 40) (one : Packed text (i + 1) ws (from + 1) left) (is : byte_of op ≡ get_or text (left.byte + 1) 0) (two : Packed text (left.byte + 3) xs left.word right) (kept : (k : ℕ) → k < left.word → get_or xs k 0 ≡ get_or ws k 0) (fits : right.byte < length text) (room : from < length xs) (q : item_of w ≡ Some (Apply op)) where
  others : (k : ℕ) → from < k → get_or (set xs from w) k 0 ≡ get_or xs k 0
  others k h = get_or-set_other xs from k w 0 (λ p. omega arith)

  module _ (ns : List (List ℕ)) (n : NamesIn ns text) (di : Distinct ns) (e : Expr) (s : Stands (Named ns) text i e) where
    parts : Halves ns e s.spelling
    parts = halves ns e s.spelling s.spells (is-bracket ns text n i e s bracket)

    mid-is : left.byte ≡ (i + 1) + length parts.u
    mid-is = one.stop ns n di parts.left (stands_left ns text n i e s parts)

    end_is : right.byte + 1 ≡ i + length s.spelling
    end_is =
        let end : right.byte ≡ (left.byte + 3) + length parts.v = two.stop ns n di parts.right (stands_right ns text n i e s parts left.byte mid-is) in
        omega (arith, end, mid-is, long ns text n i e s parts)

    op-is : op ≡ parts.op
    op-is = same_op op parts.op (is ∙ op-byte ns text n i e s parts left.byte mid-is)

    coded : (owns : ℕ) → length ns ≤ owns → Coded owns (set xs from w) from e right.word
    coded owns le =
        let p = parts in
        let a : Coded owns (set xs from w) (from + 1) p.left left.word =
        coded_kept owns ws (set xs from w) p.left (from + 1) left.word (λ k g l. others k (omega arith) ∙ kept k l)
        (one.code ns n di owns le p.left (stands_left ns text n i e s p)) in
        let b : Coded owns (set xs from w) left.word p.right right.word =
        coded_kept owns xs (set xs from w) p.right left.word right.word (λ k g l. others k (omega (arith, one.more)))
        (two.code ns n di owns le p.right (stands_right ns text n i e s p left.byte mid-is)) in
        subst (λ (x : Expr). Coded owns (set xs from w) from x right.word) (ap (λ o. node o p.left p.right) op-is ∙ sym p.is)
        (coded-node op owns (set xs from w) from left.word right.word p.left p.right (ap item_of (get_or-set_same xs from w 0 room) ∙ q) a b)

  pub packed-node : Packed text i (set xs from w) from record { byte = right.byte + 1; word = right.word }
  packed-node =
      record { more = omega (arith, one.more, two.more); inside = omega arith; stop = end_is; code = λ ns n di owns le e s. coded ns n di e s owns le }
