-- What the step at an entry has the lanes do is what is left there, with the numbers worked out.
use Rattle.std.proofs.Common.{◌≡◌, ℕ, suc, Bool, true, false, cond, ltb, List, Some, None, Option, sym, refl, subst, inl, inr, arith}
use Rattle.std.proofs.lemmas.Bool.{ltb-true, lt-ltb, both_ways, le-ltb}
use Rattle.lanes.specs.Syntax.{Body, Expr, end, at_barrier, ended}
use Rattle.lanes.specs.Step.{stepping}
use Rattle.grammar.specs.Stands.{Stands}
use Rattle.code.specs.declared.step.Step.{Step}
use Rattle.code.specs.declared.step.Step.TheVariants.{Put, Read, Write, Branch, Jump, Barrier, End}
use Rattle.code.specs.Code as code
use Rattle.code.specs.Code.{Does, is_jump}
use Rattle.code.specs.Words.{step_at}
use Rattle.store.specs.declared.Sizes.{Sizes}
use Rattle.store.specs.declared.Todo.{Todo}
use Rattle.store.specs.declared.Todo.TheVariants as todo
use Rattle.store.specs.Acts.{NextIs, TodoFits, Goes}
use Rattle.machine.specs.declared.line.Plan.{Plan}
use Rattle.machine.specs.Plans.{plan_of_spec}

some_is : (a b : Plan) → ◌≡◌ {A = Option Plan} (Some a) (Some b) → a ≡ b
some_is a b e = cc

none-some : (a : Plan) → ◌≡◌ {A = Option Plan} None (Some a) → ⊥
none-some a e = let z : ◌≡◌ {A = ℕ} 0 1 = cc in omega arith

-- a plan that is made under a test
tested : (t : Bool) (a p : Plan) → cond t (Some a) None ≡ Some p → (t ≡ true) × (a ≡ p)
tested true a p e = (refl, some_is a p e)
tested false a p e = absurd (none-some p e)

untested : (t : Bool) (a : Plan) → cond t (Some a) None ≡ None → t ≡ false
untested true a e = absurd (none-some a (sym e))
untested false a e = refl

pub plan-fits : (z : Sizes) (s : Step) (p : Plan) → plan_of_spec z.owns s ≡ Some p → TodoFits z p.todo
plan-fits z (Put k x i) p e = let q = tested _ _ p e in subst (λ (a : Plan). TodoFits z a.todo) q.1 (ltb-true k z.owns q.0)
plan-fits z (Read f k x i) p e = let q = tested _ _ p e in subst (λ (a : Plan). TodoFits z a.todo) q.1 (ltb-true k z.owns q.0)
plan-fits z (Write f x y i) p e = subst (λ (a : Plan). TodoFits z a.todo) (some_is _ p e) tt
plan-fits z (Branch x y n j f) p e = subst (λ (a : Plan). TodoFits z a.todo) (some_is _ p e) tt
plan-fits z (Jump i) p e = absurd (none-some p e)
plan-fits z (Barrier i) p e = absurd (none-some p e)
plan-fits z End p e = absurd (none-some p e)

pub plan-goes : (owns lines : ℕ) (s : Step) (p : Plan) → plan_of_spec owns s ≡ Some p → code.Goes owns lines s → Goes (suc lines) p.todo
plan-goes owns lines (Put k x i) p e g = let q = tested _ _ p e in subst (λ (a : Plan). Goes (suc lines) a.todo) q.1 (let h = g.1 in omega arith)
plan-goes owns lines (Read f k x i) p e g = let q = tested _ _ p e in subst (λ (a : Plan). Goes (suc lines) a.todo) q.1 (let h = g.1 in omega arith)
plan-goes owns lines (Write f x y i) p e g = subst (λ (a : Plan). Goes (suc lines) a.todo) (some_is _ p e) (omega arith)
plan-goes owns lines (Branch x y n j f) p e g = subst (λ (a : Plan). Goes (suc lines) a.todo) (some_is _ p e) (let h = g.0 in let k = g.1 in (omega arith, omega arith))
plan-goes owns lines (Jump i) p e g = absurd (none-some p e)
plan-goes owns lines (Barrier i) p e g = absurd (none-some p e)
plan-goes owns lines End p e g = absurd (none-some p e)

-- no plan: a lane that stands there can't step
pub no-plan : (N : ℕ → List ℕ → Type 0) (text : List ℕ) (at : ℕ → Body) (owns lines : ℕ) (s : Step) (b : Body) → plan_of_spec owns s ≡ None → code.Goes owns lines s → (is_jump s ≡ true → ⊥) →
    Does N text at s b → stepping b ≡ false
unfolding at_barrier ended
no-plan N text at owns lines (Put k x i) b e g nj d = absurd (both_ways (ltb k owns) (untested (ltb k owns) _ e) (lt-ltb k owns g.0))
no-plan N text at owns lines (Read f k x i) b e g nj d = absurd (both_ways (ltb k owns) (untested (ltb k owns) _ e) (lt-ltb k owns g.0))
no-plan N text at owns lines (Write f x y i) b e g nj d = absurd (none-some _ (sym e))
no-plan N text at owns lines (Branch x y n j f) b e g nj d = absurd (none-some _ (sym e))
no-plan N text at owns lines (Jump i) b e g nj d = absurd (nj refl)
no-plan N text at owns lines (Barrier i) b e g nj d = rw d refl
no-plan N text at owns lines End b e g nj d = rw d refl

-- a plan: it is what is left
module _ (N : ℕ → List ℕ → Type 0) (text : List ℕ) (at : ℕ → Body) (owns : ℕ) (val : Expr → ℕ) (c v : ℕ) where
  -- the second number, which only a write has
  abbrev pub Second : ℕ → Todo → Type 0
  Second y (todo.Put k i) = Unit {0}
  Second y (todo.Read f k i) = Unit {0}
  Second y (todo.Write f i) = (e : Expr) → Stands N text y e → v ≡ val e
  Second y (todo.Branch a b) = Unit {0}

  abbrev Follows : Body → Plan → Type 0
  Follows b p = ((e : Expr) → Stands N text p.first e → c ≡ val e) → Second p.second p.todo → NextIs at val p.todo c v b

  pub next_is : (s : Step) (p : Plan) (b : Body) → plan_of_spec owns s ≡ Some p → Does N text at s b → Follows b p
  next_is (Put k x i) p b e (f, st, is) = let q = tested _ _ p e in subst (Follows b) q.1 (λ w u. (f, is, w f st))
  next_is (Read true k x i) p b e (f, st, is) = let q = tested _ _ p e in subst (Follows b) q.1 (λ w u. (f, is, w f st))
  next_is (Read false k x i) p b e (f, st, is) = let q = tested _ _ p e in subst (Follows b) q.1 (λ w u. (f, is, w f st))
  next_is (Write true x y i) p b e (f, h, st, su, is) = subst (Follows b) (some_is _ p e) (λ w u. (f, h, is, w f st, u h su))
  next_is (Write false x y i) p b e (f, h, st, su, is) = subst (Follows b) (some_is _ p e) (λ w u. (f, h, is, w f st, u h su))
  next_is (Branch x y n j true) p b e (f, st, here) =
      subst (Follows b) (some_is _ p e)
      (λ w u. (f, inr (record { inner = here.inner; behind = here.behind; is = here.is; if_so = here.yes; if_not = here.no }), w f st))
  next_is (Branch x y n j false) p b e (f, st, here) =
      subst (Follows b) (some_is _ p e)
      (λ w u. (f, inl (record { first = here.first; second = here.second; behind = here.behind; is = here.is; if_so = here.yes; if_not = here.no }), w f st))
  next_is (Jump i) p b e d = absurd (none-some p e)
  next_is (Barrier i) p b e d = absurd (none-some p e)
  next_is End p b e d = absurd (none-some p e)

-- behind the last entry nothing is left
pub last_end : (N : ℕ → List ℕ → Type 0) (text : List ℕ) (at : ℕ → Body) (words : List ℕ) (lines : ℕ) (b : Body) → Does N text at (step_at words lines lines) b → b ≡ end
unfolding step_at
last_end N text at words lines b d = rw (le-ltb lines lines (omega arith)) at d
