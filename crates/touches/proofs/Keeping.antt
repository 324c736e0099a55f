-- A touch that races with none is kept, and what is kept stands for it and all before it.
use Rattle.std.proofs.Common.{◌≡◌, ℕ, ◌<◌, ◌≤◌, Bool, true, false, not, eqb, ltb, ◌⊎◌, List, Some, None, Option, sym, refl, ap, ◌∙◌, subst, inl, inr, arith}
use Rattle.std.proofs.lemmas.Bool.{cond_both, both_ways}
use Rattle.std.proofs.lemmas.Bool.Decides.{nat_tests}
use Rattle.lanes.specs.Grid.{Mark}
use Rattle.lanes.specs.Race.{race, unparted}
use Rattle.touches.specs.declared.Who.{Who}
use Rattle.touches.specs.declared.Found.{Found}
use Rattle.touches.specs.declared.Held.{Held}
use Rattle.touches.specs.declared.Readers.{Readers}
use Rattle.touches.specs.declared.Readers.TheVariants.{Nobody, One, Two}
use Rattle.touches.specs.Code.{look_of, joined_of, keep_of}
use Rattle.touches.specs.Kept.{mark_of, Among, Was, Under, WriterKept, ReadersKept, Keeps, Rising, AnswersFor}
use Rattle.touches.proofs.Marks.{more, newest, further, among-more}
use Rattle.touches.proofs.Finding.{risen, look-exact}

-- one more mark
newer : (w c : ℕ) (ms : List Mark) (x m : Mark) (kind : Bool) → Was w c (more ms x) kind m → (m ≡ x) ⊎ Was w c ms kind m
newer w c ms x m kind was = elim (among-more m ms x was.among) [ inl e ↦ inl e | inr i ↦ inr (record { among = i; place = was.place; cell = was.cell; kind = was.kind }) ]

under-self : (w c : ℕ) (t : Who) (y : Bool) (m : Mark) → m ≡ mark_of w c t y → Under m t
under-self w c t y m e = rw e (record { group = refl; phase = omega arith; lane = λ _. refl })

-- a mark of the other kind changes nothing
other-kind : (w c : ℕ) (ms : List Mark) (t : Who) (y x : Bool) (m : Mark) → (y ≡ x → ⊥) → Was w c (more ms (mark_of w c t y)) x m → Was w c ms x m
other-kind w c ms t y x m ne was = elim (newer w c ms (mark_of w c t y) m x was) [ inl e ↦ absurd (ne (sym (ap (λ (k : Mark). k.touch.wrote) e) ∙ was.kind)) | inr o ↦ o ]

same_writer : (w c : ℕ) (ms : List Mark) (t : Who) (k : Option Who) → WriterKept w c ms k → WriterKept w c (more ms (mark_of w c t false)) k
same_writer w c ms t None kept = λ m was. kept m (other-kind w c ms t false true m (both_ways false refl) was)
same_writer w c ms t (Some a) kept = (further _ _ ms kept.0, λ m was. kept.1 m (other-kind w c ms t false true m (both_ways false refl) was))

same-readers : (w c : ℕ) (ms : List Mark) (t : Who) (k : Readers) → ReadersKept w c ms k → ReadersKept w c (more ms (mark_of w c t true)) k
same-readers w c ms t Nobody kept = λ m was. kept m (other-kind w c ms t true false m (λ e. both_ways true (e) refl) was)
same-readers w c ms t (One a) kept = (further _ _ ms kept.0, λ m was. kept.1 m (other-kind w c ms t true false m (λ e. both_ways true (e) refl) was))
same-readers w c ms t (Two a b) kept = (
  further _ _ ms kept.0,
  further _ _ ms kept.1,
  elim kept.2 [ inl ne ↦ inl ne | inr p ↦ inr (p.0, p.1, p.2, λ m was. p.3 m (other-kind w c ms t true false m (λ e. both_ways true (e) refl) was)) ],
)

-- a writer that races with none is above all earlier ones
above : (w c : ℕ) (m : Mark) (t : Who) → m.touch.where_is ≡ w → m.touch.cell ≡ c → (m.by_group ≡ t.group → m.phase ≤ t.phase) → race m (mark_of w c t true) ≡ false → Under m t
unfolding race unparted
above w c m t p q r h = record { group = grind (arith, nat_tests); phase = grind (arith, nat_tests); lane = λ e. grind (arith, nat_tests) }

up : (m : Mark) (a t : Who) → Under m a → a.group ≡ t.group → a.phase < t.phase → Under m t
up m a t u e l = let p = u.group in let q = u.phase in record { group = p ∙ e; phase = omega arith; lane = λ s. absurd (let z : ◌<◌ 0 0 = omega arith in omega arith) }

module _ (w c : ℕ) (ms : List Mark) (t : Who) (rise : Rising ms (mark_of w c t false)) where
  abbrev now_kept : Readers → Type 0
  now_kept = ReadersKept w c (more ms (mark_of w c t false))

  only : ((m : Mark) → Was w c ms false m → Under m t) → now_kept (One t)
  only old = (newest _ ms, λ m was. elim (newer w c ms (mark_of w c t false) m false was) [ inl e ↦ under-self w c t false m e | inr o ↦ old m o ])

  one_more : (a : Who) → ReadersKept w c ms (One a) → now_kept (joined_of (One a) t)
  one_more a kept =
      cond_both (not (eqb a.group t.group)) _ _ now_kept (λ h. (further _ _ ms kept.0, newest _ ms, inl (λ e. let z : ◌≡◌ {A = ℕ} 0 1 = grind (arith, nat_tests) in omega arith)))
      (λ h. let same : a.group ≡ t.group = grind (arith, nat_tests) in
      let upto : a.phase ≤ t.phase = risen w c ms t false rise a false kept.0 same in
      cond_both (ltb a.phase t.phase) _ _ now_kept
      (λ k. let lt : a.phase < t.phase = grind (arith, nat_tests) in only (λ m was. up m a t (kept.1 m was) same lt))
      (λ k. let ge : a.phase ≡ t.phase = grind (arith, nat_tests) in
      cond_both (eqb a.lane t.lane) _ _ now_kept
      (λ j. let el : a.lane ≡ t.lane = grind (arith, nat_tests) in (
        further _ _ ms kept.0,
        λ m was. elim (newer w c ms (mark_of w c t false) m false was)
            [ inl e ↦ rw e (record { group = sym same; phase = omega arith; lane = λ _. sym el }) | inr o ↦ kept.1 m o ],
      ))
      (λ j. (
        further _ _ ms kept.0,
        newest _ ms,
        inr (
          same,
          ge,
          (λ e. let z : ◌≡◌ {A = ℕ} 0 1 = grind (arith, nat_tests) in omega arith),
          λ m was. elim (newer w c ms (mark_of w c t false) m false was)
              [ inl e ↦ rw e (sym same, omega arith) | inr o ↦ ((kept.1 m o).group, (kept.1 m o).phase) ],
        ),
      ))))

  two-more : (a b : Who) → ReadersKept w c ms (Two a b) → now_kept (joined_of (Two a b) t)
  two-more a b kept =
      cond_both (not (eqb a.group b.group)) _ _ now_kept
      (λ h. (further _ _ ms kept.0, further _ _ ms kept.1, inl (λ e. let z : ◌≡◌ {A = ℕ} 0 1 = grind (arith, nat_tests) in omega arith)))
      (λ h. let pair : a.group ≡ b.group = grind (arith, nat_tests) in
      cond_both (not (eqb a.group t.group)) _ _ now_kept
      (λ i. (further _ _ ms kept.0, newest _ ms, inl (λ e. let z : ◌≡◌ {A = ℕ} 0 1 = grind (arith, nat_tests) in omega arith)))
      (λ i. let same : a.group ≡ t.group = grind (arith, nat_tests) in
      cond_both (ltb a.phase t.phase) _ _ now_kept
      (λ k. let lt : a.phase < t.phase = grind (arith, nat_tests) in
      only (λ m was. elim kept.2 [
        | inl ne ↦ absurd (ne pair)
        | inr p ↦ let q = p.3 m was in record { group = q.0 ∙ same; phase = omega (arith, q.1); lane = λ s. absurd (let z : ◌<◌ 0 0 = omega (arith, q.1) in omega arith) }
      ]))
      (λ k. let ge : t.phase ≤ a.phase = grind (arith, nat_tests) in (
        further _ _ ms kept.0,
        further _ _ ms kept.1,
        elim kept.2 [
          | inl ne ↦ absurd (ne pair)
          | inr p ↦ inr (p.0, p.1, p.2, λ m was. elim (newer w c ms (mark_of w c t false) m false was) [ inl e ↦ rw e (sym same, ge) | inr o ↦ p.3 m o ])
        ],
      ))))

  more-readers : (k : Readers) → ReadersKept w c ms k → now_kept (joined_of k t)
  more-readers Nobody kept = only (λ m was. absurd (kept m was))
  more-readers (One a) kept = one_more a kept
  more-readers (Two a b) kept = two-more a b kept

pub keep-kept : (w c : ℕ) (ms : List Mark) (k : Held) (t : Who) (y : Bool) → Keeps w c ms k → Rising ms (mark_of w c t y) → look_of k t y ≡ None → Keeps w c (more ms (mark_of w c t y)) (keep_of k t y)
unfolding Rising
keep-kept w c ms k t true keeps rise none =
    let P : Option Found → Type 0 = AnswersFor w c ms (mark_of w c t true) in
    let clear : (m : Mark) → Among m ms → race m (mark_of w c t true) ≡ false = subst P none (look-exact w c ms k t true keeps rise) in
    record {
      writer = (
        newest _ ms,
        λ m was. elim (newer w c ms (mark_of w c t true) m true was)
            [ inl e ↦ under-self w c t true m e | inr o ↦ above w c m t o.place o.cell (rise m o.among) (clear m o.among) ],
      );
      readers = same-readers w c ms t k.readers keeps.readers;
    }
keep-kept w c ms k t false keeps rise none =
    record { writer = same_writer w c ms t k.writer keeps.writer; readers = more-readers w c ms t rise k.readers keeps.readers }

-- a touch of another cell changes nothing
pub other-cell : (w c : ℕ) (ms : List Mark) (k : Held) (w' c' : ℕ) (t : Who) (y : Bool) → (w' ≡ w → c' ≡ c → ⊥) → Keeps w c ms k → Keeps w c (more ms (mark_of w' c' t y)) k
other-cell w c ms k w' c' t y ne keeps = record { writer = writer_as k.writer keeps.writer; readers = readers-as k.readers keeps.readers }
  where
    was-old : (x : Bool) (m : Mark) → Was w c (more ms (mark_of w' c' t y)) x m → Was w c ms x m
    was-old x m was = elim (newer w c ms (mark_of w' c' t y) m x was)
        [ inl e ↦ absurd (ne (sym (ap (λ (k : Mark). k.touch.where_is) e) ∙ was.place) (sym (ap (λ (k : Mark). k.touch.cell) e) ∙ was.cell)) | inr o ↦ o ]

    writer_as : (j : Option Who) → WriterKept w c ms j → WriterKept w c (more ms (mark_of w' c' t y)) j
    writer_as None kept = λ m was. kept m (was-old true m was)
    writer_as (Some a) kept = (further _ _ ms kept.0, λ m was. kept.1 m (was-old true m was))

    readers-as : (j : Readers) → ReadersKept w c ms j → ReadersKept w c (more ms (mark_of w' c' t y)) j
    readers-as Nobody kept = λ m was. kept m (was-old false m was)
    readers-as (One a) kept = (further _ _ ms kept.0, λ m was. kept.1 m (was-old false m was))
    readers-as (Two a b) kept =
        (further _ _ ms kept.0, further _ _ ms kept.1, elim kept.2 [ inl n ↦ inl n | inr p ↦ inr (p.0, p.1, p.2, λ m was. p.3 m (was-old false m was)) ])
