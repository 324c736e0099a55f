-- What is kept finds a race exactly if there is one.
use Rattle.std.proofs.Common.{◌≡◌, ℕ, ◌≤◌, Bool, true, false, cond, ◌&&◌, ◌||◌, eqb, ◌⊎◌, List, Some, None, Option, refl, inl, inr, arith}
use Rattle.std.proofs.lemmas.Bool.{cond_both, cases_Bool}
use Rattle.std.proofs.lemmas.Bool.Decides.{nat_tests}
use Rattle.std.specs.Option.{option_or}
use Rattle.lanes.specs.Grid.{Mark}
use Rattle.lanes.specs.Race.{race, unparted}
use Rattle.touches.specs.declared.Who.{Who}
use Rattle.touches.specs.declared.Found.{Found}
use Rattle.touches.specs.declared.Held.{Held}
use Rattle.touches.specs.declared.Readers.{Readers}
use Rattle.touches.specs.declared.Readers.TheVariants.{Nobody, One, Two}
use Rattle.touches.specs.Code.{apart_of, named, raced_of, reader_of, writer_of, look_of}
use Rattle.touches.specs.Kept.{mark_of, Among, Was, Under, WriterKept, ReadersKept, Keeps, Rising, AnswersFor}

-- one kind of the earlier touches is answered for
abbrev Part : ℕ → ℕ → List Mark → Bool → Mark → Option Found → Type 0
Part w c ms kind t None = (m : Mark) → Was w c ms kind m → race m t ≡ false
Part w c ms kind t (Some f) = Among (mark_of w c f.who f.wrote) ms × (race (mark_of w c f.who f.wrote) t ≡ true)

hits : (w c : ℕ) (a t : Who) (x y : Bool) → (x || y) ≡ true → apart_of a t ≡ true → race (mark_of w c a x) (mark_of w c t y) ≡ true
unfolding race unparted
hits w c a t x y o h = grind (arith, nat_tests)

spares : (w c : ℕ) (m : Mark) (a t : Who) (y : Bool) → Under m a → (a.group ≡ t.group → a.phase ≤ t.phase) → apart_of a t ≡ false → race m (mark_of w c t y) ≡ false
unfolding race unparted
spares w c m a t y u r h = let p = u.group in let q = u.phase in let s = u.lane in grind (arith, nat_tests)

spares-two : (w c : ℕ) (m : Mark) (a b t : Who) (y : Bool) → (a.group ≡ t.group → a.phase ≤ t.phase) → a.phase ≡ b.phase → (a.lane ≡ b.lane → ⊥) → m.by_group ≡ a.group → m.phase ≤ a.phase →
    apart_of a t ≡ false → apart_of b t ≡ false → race m (mark_of w c t y) ≡ false
unfolding race unparted
spares-two w c m a b t y r e ne p q h k = grind (arith, nat_tests)

elsewhere : (w c : ℕ) (m : Mark) (t : Who) (y : Bool) → (m.touch.where_is ≡ w → m.touch.cell ≡ c → ⊥) → race m (mark_of w c t y) ≡ false
unfolding race unparted
elsewhere w c m t y ne = grind (arith, nat_tests)

readers-apart : (a b t : Who) → apart_of a t ≡ false → apart_of b t ≡ false → (a.group ≡ b.group → ⊥) → ⊥
readers-apart a b t h k ne = grind (arith, nat_tests)

module _ (w c : ℕ) (ms : List Mark) (t : Who) (y : Bool) (rise : Rising ms (mark_of w c t y)) where
  pub risen : (a : Who) (x : Bool) → Among (mark_of w c a x) ms → a.group ≡ t.group → a.phase ≤ t.phase
  unfolding Rising
  risen a x i e = rise (mark_of w c a x) i e

  one-part : (a : Who) (x : Bool) → (x || y) ≡ true → Among (mark_of w c a x) ms → ((m : Mark) → Was w c ms x m → Under m a) → Part w c ms x (mark_of w c t y) (cond (apart_of a t) (named a x) None)
  one-part a x o i all =
      cond_both (apart_of a t) (named a x) None (Part w c ms x (mark_of w c t y)) (λ h. (i, hits w c a t x y o h)) (λ h m was. spares w c m a t y (all m was) (risen a x i) h)

  writer-part : (k : Option Who) → WriterKept w c ms k → Part w c ms true (mark_of w c t y) (writer_of k t)
  writer-part None kept = λ m was. absurd (kept m was)
  writer-part (Some a) kept = one-part a true refl kept.0 kept.1

  reader-part : (k : Readers) → y ≡ true → ReadersKept w c ms k → Part w c ms false (mark_of w c t y) (reader_of k t)
  reader-part Nobody e kept = λ m was. absurd (kept m was)
  reader-part (One a) e kept = one-part a false e kept.0 kept.1
  reader-part (Two a b) e kept =
      cond_both (apart_of a t) (named a false) None (λ o. Part w c ms false (mark_of w c t y) (option_or o (raced_of b t false))) (λ h. (kept.0, hits w c a t false y e h))
      (λ h. cond_both (apart_of b t) (named b false) None (Part w c ms false (mark_of w c t y)) (λ k. (kept.1, hits w c b t false y e k))
      (λ k m was. elim kept.2 [
        | inl ne ↦ absurd (readers-apart a b t h k ne)
        | inr p ↦ spares-two w c m a b t y (risen a false kept.0) p.1 p.2 (p.3 m was).0 (p.3 m was).1 h k
      ]))

  -- two reads don't race
  quiet-part : y ≡ false → Part w c ms false (mark_of w c t y) None
  unfolding race unparted
  quiet-part e = λ m was. let p = was.kind in grind (arith, nat_tests)

  both-parts : (a b : Option Found) → Part w c ms true (mark_of w c t y) a → Part w c ms false (mark_of w c t y) b → AnswersFor w c ms (mark_of w c t y) (option_or a b)
  both-parts (Some f) b p q = p
  both-parts None (Some f) p q = q
  both-parts None None p q = λ m i. by m i (cases_Bool (eqb m.touch.where_is w && eqb m.touch.cell c)) (cases_Bool m.touch.wrote)
    where
      by : (m : Mark) → Among m ms → ((eqb m.touch.where_is w && eqb m.touch.cell c) ≡ true) ⊎ ((eqb m.touch.where_is w && eqb m.touch.cell c) ≡ false) →
          (m.touch.wrote ≡ true) ⊎ (m.touch.wrote ≡ false) → race m (mark_of w c t y) ≡ false
      by m i (inl e) (inl k) = p m (record { among = i; place = grind (arith, nat_tests); cell = grind (arith, nat_tests); kind = k })
      by m i (inl e) (inr k) = q m (record { among = i; place = grind (arith, nat_tests); cell = grind (arith, nat_tests); kind = k })
      by m i (inr e) k = elsewhere w c m t y (λ a b. let z : ◌≡◌ {A = ℕ} 0 1 = grind (arith, nat_tests) in omega arith)

pub look-exact : (w c : ℕ) (ms : List Mark) (k : Held) (t : Who) (y : Bool) → Keeps w c ms k → Rising ms (mark_of w c t y) → AnswersFor w c ms (mark_of w c t y) (look_of k t y)
look-exact w c ms k t true keeps rise = both-parts w c ms t true rise (writer_of k.writer t) (reader_of k.readers t) (writer-part w c ms t true rise k.writer keeps.writer) (reader-part w c ms t true rise k.readers refl keeps.readers)
look-exact w c ms k t false keeps rise = both-parts w c ms t false rise (writer_of k.writer t) None (writer-part w c ms t false rise k.writer keeps.writer) (quiet-part w c ms t false rise refl)
