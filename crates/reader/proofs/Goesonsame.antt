-- Lines in each other are read by the bytes up to where they end, or are refused.
use Rattle.std.proofs.Common.{◌≡◌, ℕ, zero, suc, ◌-◌, Bool, true, false, cond, ◌&&◌, eqb, leb, List, length, Ok, Err, Option, Result, sym, refl, ap, ◌∙◌, inl, inr, arith}
use Rattle.std.proofs.lemmas.Bool.{lt-leb}
use Rattle.grammar.specs.Refusals.{place_of}
use Rattle.grammar.specs.Walk.{key_at, and_then}
use Rattle.grammar.specs.WalkLine.{line_at}
use Rattle.grammar.specs.declared.refusals.Refusal.{Refusal}
use Rattle.grammar.specs.declared.refusals.Refusal.TheVariants.{Shape, ManyLines, Deep}
use Rattle.grammar.specs.declared.lines.Lined.{Lined}
use Rattle.grammar.proofs.Sound.{cond_cases, not_err}
use Rattle.grammar.proofs.Goeson.{Agree, SameRead, same_end, same_shape, same_then, same_cond, same_from, same_other}
use Rattle.grammar.proofs.Goesonline.{next_of, line_same, key-same, line-reach-ok, line-reach-err}
use Rattle.reader.specs.Blocks.{opens, next_at, too_many, block_at, by_kind, kind_of_spec, is_else_spec, must_end_spec, must_as, must_loop_as}
use Rattle.reader.specs.declared.blocks.Ending.{Ending}
use Rattle.reader.specs.declared.blocks.Ending.TheVariants.{Text, Else, End}
use Rattle.reader.specs.declared.blocks.Kind.{Kind}
use Rattle.reader.specs.declared.blocks.Kind.TheVariants.{Plain, Opens, Loops, Parts, Closes}
use Rattle.reader.specs.declared.blocks.Stop.{Stop}

-- the last byte that a block's end depends on
abbrev pub stop_at : Ending → Stop → ℕ
stop_at Text s = s.pos
stop_at Else s = s.next - 1
stop_at End s = s.next - 1

abbrev pub stop_of : Stop → ℕ
stop_of s = stop_at s.ending s

pub no-many : (i q : ℕ) → ManyLines i ≡ Shape q → ⊥
no-many i q e = let z : ◌≡◌ {A = ℕ} 0 1 = cc in omega arith

pub no-deep : (i q : ℕ) → Deep i ≡ Shape q → ⊥
no-deep i q e = let z : ◌≡◌ {A = ℕ} 0 1 = cc in omega arith

module _ (find : List ℕ → Option ℕ) (text t : List ℕ) where
  many-same : (i : ℕ) (r s : Result Lined Refusal) → SameRead text t next_of i r s → SameRead text t next_of i (too_many i r) (too_many i s)
  many-same i (Ok l) s a = same_other text t next_of i (ManyLines i) _ (no-many i)
  many-same i (Err d) s a =
      record {
        ok = λ x e. elim (cond_cases (eqb (place_of d) i) _ _ (Ok x) e) [ inl p ↦ absurd (not_err d x p.1) | inr p ↦ absurd (not_err (ManyLines i) x p.1) ];
        err = λ m e. elim (cond_cases (eqb (place_of d) i) _ _ (Err (Shape m)) e) [
          | inl p ↦ let y = p.1 in let n : d ≡ Shape m = cc in let q = a.err m y in let c : eqb m i ≡ true = ap (λ k. eqb (place_of k) i) (sym n) ∙ p.0 in (q.0, λ g. rw (q.1 g, c) refl)
          | inr p ↦ let y = p.1 in let z : ◌≡◌ {A = ℕ} 0 1 = cc in absurd (omega arith)
        ];
      }

  -- a line that may open a block, or may not
  abbrev may_open : List ℕ → ℕ → ℕ → Result Lined Refusal
  may_open s deep i = cond (eqb deep 0 && opens (key_at s i)) (Err (Deep i)) (line_at find s i)

  open-same : (deep i : ℕ) → SameRead text t next_of i (may_open text deep i) (may_open t deep i)
  open-same deep i =
      record {
        ok = λ x e. elim (cond_cases (eqb deep 0 && opens (key_at text i)) _ _ (Ok x) e) [
          | inl p ↦ absurd (not_err (Deep i) x p.1)
          | inr p ↦ let q = (line_same find text t i).ok x p.1 in
              (q.0, λ g. let c : (eqb deep 0 && opens (key_at t i)) ≡ false = ap (λ k. eqb deep 0 && opens k) (key-same find text t i (next_of x) (line-reach-ok find text i x p.1) g) ∙ p.0 in rw c (q.1 g))
        ];
        err = λ m e. elim (cond_cases (eqb deep 0 && opens (key_at text i)) _ _ (Err (Shape m)) e) [
          | inl p ↦ let y = p.1 in let z : ◌≡◌ {A = ℕ} 0 1 = cc in absurd (omega arith)
          | inr p ↦ let q = (line_same find text t i).err m p.1 in
              (q.0, λ g. let c : (eqb deep 0 && opens (key_at t i)) ≡ false = ap (λ k. eqb deep 0 && opens k) (key-same find text t i m (line-reach-err find text i m p.1) g) ∙ p.0 in rw c (q.1 g))
        ];
      }

  pub next-same : (deep left i : ℕ) → SameRead text t next_of i (next_at find text deep left i) (next_at find t deep left i)
  unfolding next_at
  next-same deep left i =
      same_cond text t next_of i (eqb left 0) (eqb left 0) _ _ _ _ (λ a. refl) (many-same i (line_at find text i) (line_at find t i) (line_same find text t i)) (open-same deep i)

  abbrev Goes : (ℕ → ℕ → ℕ → Bool → Result Stop Refusal) → (ℕ → ℕ → ℕ → Bool → Result Stop Refusal) → Type 0
  Goes go og = (deep left n : ℕ) (some : Bool) → SameRead text t stop_of n (go deep left n some) (og deep left n some)

  module _ (go og : ℕ → ℕ → ℕ → Bool → Result Stop Refusal) (h : Goes go og) where
    after : (deep : ℕ) (s : Stop) → SameRead text t stop_of (s.next - 1) (go deep s.left s.next true) (og deep s.left s.next true)
    after deep s = same_from text t stop_of (s.next - 1) s.next _ _ (omega arith) (h deep s.left s.next true)

    end_on : (E : Ending) (deep : ℕ) (s : Stop)
        → SameRead text t stop_of (stop_at E s) (and_then (must_as End E s) (λ e. go deep e.left e.next true)) (and_then (must_as End E s) (λ e. og deep e.left e.next true))
    end_on Text deep s = same_shape text t stop_of s.pos s.pos (omega arith)
    end_on Else deep s = same_shape text t stop_of (s.next - 1) (s.next - 1) (omega arith)
    end_on End deep s = after deep s

    loop_some : (b : Bool) (deep : ℕ) (s : Stop)
        → SameRead text t stop_of (s.next - 1) (and_then (cond b (Ok s) (Err (Shape (s.next - 1)))) (λ e. go deep e.left e.next true)) (and_then (cond b (Ok s) (Err (Shape (s.next - 1)))) (λ e. og deep e.left e.next true))
    loop_some true deep s = after deep s
    loop_some false deep s = same_shape text t stop_of (s.next - 1) (s.next - 1) (omega arith)

    loop_on : (E : Ending) (deep : ℕ) (s : Stop)
        → SameRead text t stop_of (stop_at E s) (and_then (must_loop_as E s) (λ e. go deep e.left e.next true)) (and_then (must_loop_as E s) (λ e. og deep e.left e.next true))
    loop_on Text deep s = same_shape text t stop_of s.pos s.pos (omega arith)
    loop_on Else deep s = same_shape text t stop_of (s.next - 1) (s.next - 1) (omega arith)
    loop_on End deep s = loop_some s.some deep s

    second : (deep : ℕ) (s : Stop)
        → SameRead text t stop_of (s.next - 1) (and_then (go (deep - 1) s.left s.next false) (λ x. and_then (must_end_spec x) (λ e. go deep e.left e.next true)))
        (and_then (og (deep - 1) s.left s.next false) (λ x. and_then (must_end_spec x) (λ e. og deep e.left e.next true)))
    second deep s =
        same_from text t stop_of (s.next - 1) s.next _ _ (omega arith)
        (same_then text t stop_of stop_of s.next (go (deep - 1) s.left s.next false) (og (deep - 1) s.left s.next false) _ _ (h (deep - 1) s.left s.next false) (λ x. end_on x.ending deep x))

    if_on : (E : Ending) (deep : ℕ) (s : Stop)
        → SameRead text t stop_of (stop_at E s)
        (cond (is_else_spec E) (and_then (go (deep - 1) s.left s.next false) (λ x. and_then (must_end_spec x) (λ e. go deep e.left e.next true))) (and_then (must_as End E s) (λ e. go deep e.left e.next true)))
        (cond (is_else_spec E) (and_then (og (deep - 1) s.left s.next false) (λ x. and_then (must_end_spec x) (λ e. og deep e.left e.next true))) (and_then (must_as End E s) (λ e. og deep e.left e.next true)))
    if_on Text deep s = end_on Text deep s
    if_on Else deep s = second deep s
    if_on End deep s = end_on End deep s

    pub by-kind-same : (c : Kind) (deep left i n : ℕ) (some : Bool) → SameRead text t stop_of (n - 1) (by_kind go deep left i some c n) (by_kind og deep left i some c n)
    by-kind-same Plain deep left i n some = same_from text t stop_of (n - 1) n _ _ (omega arith) (h deep (left - 1) n true)
    by-kind-same Opens deep left i n some =
        same_from text t stop_of (n - 1) n _ _ (omega arith)
        (same_then text t stop_of stop_of n (go (deep - 1) (left - 1) n false) (og (deep - 1) (left - 1) n false) _ _ (h (deep - 1) (left - 1) n false) (λ s. if_on s.ending deep s))
    by-kind-same Loops deep left i n some =
        same_from text t stop_of (n - 1) n _ _ (omega arith)
        (same_then text t stop_of stop_of n (go (deep - 1) (left - 1) n false) (og (deep - 1) (left - 1) n false) _ _ (h (deep - 1) (left - 1) n false) (λ s. loop_on s.ending deep s))
    by-kind-same Parts deep left i n some = same_end text t stop_of (n - 1) _ (omega arith)
    by-kind-same Closes deep left i n some = same_end text t stop_of (n - 1) _ (omega arith)

  not_past : (i : ℕ) → Agree i text t → leb (length text) i ≡ leb (length t) i
  not_past i a = lt-leb (length text) i a.first ∙ sym (lt-leb (length t) i a.second)

  pub block_same : (f deep left i : ℕ) (some : Bool) → SameRead text t stop_of i (block_at find text f deep left i some) (block_at find t f deep left i some)
  unfolding block_at
  block_same zero deep left i some = same_shape text t stop_of i i (omega arith)
  block_same (suc f) deep left i some =
      same_cond text t stop_of i (leb (length text) i) (leb (length t) i) _ _ _ _ (not_past i) (same_end text t stop_of i _ (omega arith))
      (same_then text t next_of stop_of i (next_at find text deep left i) (next_at find t deep left i) _ _ (next-same deep left i)
      (λ l. by-kind-same (block_at find text f) (block_at find t f) (block_same f) (kind_of_spec l.line) deep left i l.next some))
