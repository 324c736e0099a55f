-- Two expressions in a bracket: where they stand, and what the bracket is worth.
use Rattle.std.proofs.Common.{◌≡◌, ℕ, suc, ◌+◌, ◌<◌, ◌≤◌, ◌≢◌, List, [], ◌∷◌, ◌++◌, length, get_or, drop, sym, refl, ap, ◌∙◌, append_assoc, arith}
use Rattle.std.proofs.lemmas.List.{length-append, drop-drop, drop_at}
use Rattle.std.proofs.lemmas.Bool.Decides.{nat_tests}
use Rattle.lanes.specs.Syntax.{Expr}
use Rattle.lanes.specs.Step.{value}
use Rattle.grammar.specs.Spelling.{Named}
use Rattle.grammar.specs.Stands.{Stands}
use Rattle.grammar.specs.Names.{NamesIn, Distinct}
use Rattle.grammar.proofs.Scanned.{behind-part}
use Rattle.values.specs.declared.ops.Op.{Op}
use Rattle.values.specs.declared.ops.Op.TheVariants.{Plus, Minus, Times, Over, Rest, Less, Same}
use Rattle.values.specs.declared.row.Row.{Row}
use Rattle.values.specs.Ops.{op_of, node, byte_of, Applied}
use Rattle.values.specs.Rows.{Values, Evaluated}
use Rattle.values.proofs.Spelt.{Halves, halves}
use Rattle.values.proofs.Standing.{is-bracket, in-text}

-- What a bracket is worth.
pub value-node : (op : Op) (v : List ℕ) (l g n : ℕ) (e f : Expr) → value v l g n (node op e f) ≡ op_of op (value v l g n e) (value v l g n f)
unfolding value
value-node Plus v l g n e f = refl
value-node Minus v l g n e f = refl
value-node Times v l g n e f = refl
value-node Over v l g n e f = refl
value-node Rest v l g n e f = refl
value-node Less v l g n e f = refl
value-node Same v l g n e f = refl

-- A byte tells the operator.
pub same_op : (o p : Op) → byte_of o ≡ byte_of p → o ≡ p
same_op o p q = grind (arith, nat_tests)

-- The bracket's halves, and what is behind each.
module _ (ns : List (List ℕ)) (text : List ℕ) (n : NamesIn ns text) (i : ℕ) (e : Expr) (s : Stands (Named ns) text i e) (h : Halves ns e s.spelling) where
  opened : drop i text ≡ 40 ∷ (h.u ++ (32 ∷ byte_of h.op ∷ 32 ∷ (h.v ++ (41 ∷ s.behind))))
  opened =
      s.here ∙ ap (λ t. t ++ s.behind) h.whole
      ∙ ap (λ t. 40 ∷ t) (append_assoc h.u (32 ∷ byte_of h.op ∷ 32 ∷ (h.v ++ (41 ∷ []))) s.behind)
      ∙ ap (λ t. 40 ∷ (h.u ++ (32 ∷ byte_of h.op ∷ 32 ∷ t))) (append_assoc h.v (41 ∷ []) s.behind)

  pub at_left : drop (i + 1) text ≡ h.u ++ (32 ∷ byte_of h.op ∷ 32 ∷ (h.v ++ (41 ∷ s.behind)))
  at_left = sym (drop-drop 1 i text) ∙ ap (λ t. drop 1 t) opened

  abbrev pub stands_left : Stands (Named ns) text (i + 1) h.left
  stands_left = record { spelling = h.u; behind = 32 ∷ byte_of h.op ∷ 32 ∷ (h.v ++ (41 ∷ s.behind)); spells = h.spells_left; here = at_left; apart = refl }

  pub long : length s.spelling ≡ length h.u + length h.v + 5
  long =
      ap length h.whole
      ∙ ap suc (length-append h.u (32 ∷ byte_of h.op ∷ 32 ∷ (h.v ++ (41 ∷ []))) ∙ ap (λ m. length h.u + suc (suc (suc m))) (length-append h.v (41 ∷ [])))
      ∙ omega arith

  module _ (mid : ℕ) (is : mid ≡ (i + 1) + length h.u) where
    pub at_mid : drop mid text ≡ 32 ∷ byte_of h.op ∷ 32 ∷ (h.v ++ (41 ∷ s.behind))
    at_mid = ap (λ m. drop m text) is ∙ sym (drop-drop (length h.u) (i + 1) text) ∙ ap (λ t. drop (length h.u) t) at_left ∙ drop_at h.u _ _ refl

    pub op-byte : get_or text (mid + 1) 0 ≡ byte_of h.op
    op-byte = ap (λ m. get_or text m 0) (omega (arith, is)) ∙ behind-part text h.u _ (i + 1) 1 at_left

    abbrev pub stands_right : Stands (Named ns) text (mid + 3) h.right
    stands_right = record { spelling = h.v; behind = 41 ∷ s.behind; spells = h.spells_right; here = sym (drop-drop 3 mid text) ∙ ap (λ t. drop 3 t) at_mid; apart = refl }

module _ (text : List ℕ) (i : ℕ) (r : Row) (out : List ℕ) (mid : ℕ) (bracket : get_or text i 0 ≡ 40) (one : Evaluated text (i + 1) r out mid) where
  module _ (ns : List (List ℕ)) (n : NamesIn ns text) (di : Distinct ns) (le : length ns ≤ r.owns) (e : Expr) (s : Stands (Named ns) text i e) where
    parts : Halves ns e s.spelling
    parts = halves ns e s.spelling s.spells (is-bracket ns text n i e s bracket)

    mid-is : mid ≡ (i + 1) + length parts.u
    mid-is = one.stop ns n di le parts.left (stands_left ns text n i e s parts)

    whole_is : i + length s.spelling ≡ ((mid + 3) + length parts.v) + 1
    whole_is = omega (arith, mid-is, long ns text n i e s parts)

    fits : ((mid + 3) + length parts.v) + 1 ≤ length text
    fits = omega (arith, whole_is, in-text ns text n i e s)

    op-is : (op : Op) → byte_of op ≡ get_or text (mid + 1) 0 → op ≡ parts.op
    op-is op q = same_op op parts.op (q ∙ op-byte ns text n i e s parts mid mid-is)

  -- No expression stands there.
  pub cut_short : length text < mid + 3 → i < length text → Evaluated text i r out mid
  cut_short h here =
      record {
        from = omega (arith, one.from);
        within = λ _. one.within (omega arith);
        stop = λ ns n di le e s. absurd (omega (arith, h, fits ns n di le e s));
        each = λ ns n di le e s. absurd (omega (arith, h, fits ns n di le e s));
      }

  pub no-op : ((op : Op) → byte_of op ≢ get_or text (mid + 1) 0) → i < length text → Evaluated text i r out mid
  no-op h here =
      let none : (ns : List (List ℕ)) (n : NamesIn ns text) (di : Distinct ns) (le : length ns ≤ r.owns) (e : Expr) (s : Stands (Named ns) text i e) → ⊥ =
      λ ns n di le e s. h (parts ns n di le e s).op (sym (op-byte ns text n i e s (parts ns n di le e s) mid (mid-is ns n di le e s))) in
      record {
        from = omega (arith, one.from);
        within = λ _. one.within (omega arith);
        stop = λ ns n di le e s. absurd (none ns n di le e s);
        each = λ ns n di le e s. absurd (none ns n di le e s);
      }

  module _ (right : List ℕ) (end : ℕ) (op : Op) (all : List ℕ) (is : byte_of op ≡ get_or text (mid + 1) 0) (room : mid + 3 ≤ length text) (two : Evaluated text (mid + 3) r right end) (wide : length right ≡ length out) (done : Applied op out right all) where
    end_is : (ns : List (List ℕ)) (n : NamesIn ns text) (di : Distinct ns) (le : length ns ≤ r.owns) (e : Expr) (s : Stands (Named ns) text i e) → end ≡ (mid + 3) + length (parts ns n di le e s).v
    end_is ns n di le e s = two.stop ns n di le (parts ns n di le e s).right (stands_right ns text n i e s (parts ns n di le e s) mid (mid-is ns n di le e s))

    worth : (ns : List (List ℕ)) (n : NamesIn ns text) (di : Distinct ns) (le : length ns ≤ r.owns) (e : Expr) (s : Stands (Named ns) text i e) → Values r e all
    unfolding Values
    worth ns n di le e s k hk v o =
        let p = parts ns n di le e s in
        let val : Expr → ℕ = value v (r.first + k) r.group r.lanes in
        let a : get_or out k 0 ≡ val p.left = one.each ns n di le p.left (stands_left ns text n i e s p) k (omega (arith, done.long)) v o in
        let b : get_or right k 0 ≡ val p.right = two.each ns n di le p.right (stands_right ns text n i e s p mid (mid-is ns n di le e s)) k (omega (arith, done.long)) v o in
        done.each k (omega (arith, done.long)) (omega (arith, done.long))
        ∙ ap (λ x. op_of op x (get_or right k 0)) a ∙ ap (λ y. op_of op (val p.left) y) b
        ∙ ap (λ q. op_of q (val p.left) (val p.right)) (op-is ns n di le e s op is)
        ∙ sym (value-node p.op v (r.first + k) r.group r.lanes p.left p.right) ∙ ap val (sym p.is)

    pub closed : end < length text → Evaluated text i r all (end + 1)
    closed h =
        record {
          from = omega (arith, one.from, two.from);
          within = λ _. omega arith;
          stop = λ ns n di le e s. omega (arith, end_is ns n di le e s, whole_is ns n di le e s);
          each = worth;
        }

    pub unclosed : length text ≤ end → Evaluated text i r all end
    unclosed h =
        record {
          from = omega (arith, one.from, two.from);
          within = λ _. two.within room;
          stop = λ ns n di le e s. absurd (omega (arith, h, end_is ns n di le e s, fits ns n di le e s));
          each = worth;
        }
