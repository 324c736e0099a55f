-- What is kept by every event of a row.
use Rattle.std.proofs.Common.{◌≡◌, ℕ, suc, ◌<◌, ◌≤◌, true, false, cond, List, [], ◌∷◌, sym, refl, ◌∙◌, subst, inl, inr, arith}
use Rattle.std.specs.List.{AllByRecursion as All}
use Rattle.std.proofs.lemmas.Bool.{cases_Bool, cases_lt, cond-true, cond-false, cond_both}
use Rattle.masks.specs.Masks.{on}
use Rattle.code.specs.declared.step.Step.{Step}
use Rattle.code.specs.declared.step.Step.TheVariants.{Put, Read, Write, Branch, Jump, Barrier, End}
use Rattle.code.specs.Code.{is_loop}
use Rattle.code.specs.Settle.{Leads}
use Rattle.code.specs.Joins.{is_branch, Inside, JoinsAt, Regions}
use Rattle.joins.specs.Story.{did, parted, went, passed, Story, place, partings, Open, leave, open_joins, branches_of, Held, FairDid, FairParted, FairWent, Passes, Happened, Falls, Sound}
use Rattle.joins.proofs.Opens.{branches-here, branches-below}
use Rattle.joins.proofs.Leaves.{falls-from, falls-leave, off-branches, on-branches, branches-top, none-branches}
use Rattle.joins.proofs.Chains.{Chain, chain-moved, chain-parted, chain-went}
use Rattle.joins.proofs.Sounds.{sound-leave, outside}

-- Only a while stands in itself.
own-loop : (s : Step) (b : ℕ) → Inside s b b → is_loop s ≡ true
own-loop (Put k x i) b h = absurd h
own-loop (Read f k x i) b h = absurd h
own-loop (Write f x y i) b h = absurd h
own-loop (Branch x y n j true) b h = refl
own-loop (Branch x y n j false) b h = absurd (omega arith)
own-loop (Jump i) b h = absurd h
own-loop (Barrier i) b h = absurd h
own-loop End b h = absurd h

pub record Inv (code : ℕ → Step) (w : ℕ) (h : Story) : Type 0 where
  pub falls : Falls (partings h) (open_joins h)
  pub sound : All (Sound code w) (open_joins h)
  pub chain : (i : ℕ) → Chain code (place h i) (branches_of (open_joins h) i)

-- A lane that is not held is not at the join of the newest branch that it is in.
pub free-from : (code : ℕ → Step) (h : Story) (i : ℕ) → (Held code h i → ⊥) → (b : ℕ) (cs : List ℕ) → branches_of (open_joins h) i ≡ b ∷ cs → JoinsAt code b (place h i) → ⊥
free-from code h i f b cs e j =
    let r = branches-top (open_joins h) i b cs e in
    f (r.0.number, record { join = r.0; top = r.1; its_number = refl; there = subst (λ (v : ℕ). JoinsAt code v (place h i)) (sym r.2) j })

module _ (code : ℕ → Step) (lines w : ℕ) (g : Regions code lines) (near : (b : ℕ) → is_branch (code b) ≡ true → b ≤ lines) where
  chain-at : (p q : ℕ) (bs cs : List ℕ) → p ≡ q → bs ≡ cs → Chain code q cs → Chain code p bs
  chain-at p q bs cs e f c = subst (λ (v : ℕ). Chain code v bs) (sym e) (subst (λ (v : List ℕ). Chain code q v) (sym f) c)

  lane-moved : (h : Story) → Inv code w h → (i p r : ℕ) → place h i ≡ p → (Held code h i → ⊥) → Leads code p r → Chain code r (branches_of (open_joins h) i)
  lane-moved h v i p r e f l =
      chain-moved code lines g near (place h i) r (branches_of (open_joins h) i) (v.chain i) (free-from code h i f) (subst (λ (q : ℕ). Leads code q r) (sym e) l)

  inv-did : (h : Story) (m l : ℕ) (to : ℕ → ℕ) → Inv code w h → FairDid code w h m l to → Inv code w (did m l to ∷ h)
  unfolding place partings open_joins
  inv-did h m l to v f =
      record {
        falls = v.falls;
        sound = v.sound;
        chain = λ i. cond_both (on m i) (to i) (place h i) (λ (p : ℕ). Chain code p (branches_of (open_joins h) i))
            (λ q. let d = f.lanes.each i q in lane-moved h v i l (to i) d.stands d.could.free d.leads)
            (λ q. v.chain i);
      }

  lane-parted : (h : Story) → Inv code w h → (m l : ℕ) (to : ℕ → ℕ) → FairParted code w h m l to → (i : ℕ) → on m i ≡ true → Chain code (to i) (l ∷ branches_of (open_joins h) i)
  lane-parted h v m l to f i q =
      let d = f.lanes.each i q in
      let bs : List ℕ = branches_of (open_joins h) i in
      chain-parted code lines g near l (to i) bs (subst (λ (p : ℕ). Chain code p bs) d.stands (v.chain i))
      (λ b cs e j. free-from code h i d.could.free b cs e (subst (λ (p : ℕ). JoinsAt code b p) (sym d.stands) j))
      (λ b cs e n s.
      let r = branches-top (open_joins h) i b cs e in
      let own : Inside (code l) l l = subst (λ (u : ℕ). Inside (code u) u l) (sym s) n in
      f.anew (own-loop (code l) l own) i q (r.0, r.1, r.2 ∙ sym s))
      f.branch d.leads

  inv-parted : (h : Story) (m l : ℕ) (to : ℕ → ℕ) → Inv code w h → FairParted code w h m l to → Inv code w (parted m l to ∷ h)
  unfolding place partings open_joins
  inv-parted h m l to v f =
      let o : Open = record { number = partings h; branch = l; lanes = m } in
      record {
        falls = falls-from (suc (partings h)) o (open_joins h) (omega arith) v.falls;
        sound = (record { some = f.lanes.some; within = λ i q. (f.lanes.each i q).within; branch = f.branch }, v.sound);
        chain = λ i. elim (cases_Bool (on m i)) [
          | inl q ↦ chain-at (cond (on m i) (to i) (place h i)) (to i) (branches_of (o ∷ open_joins h) i) (l ∷ branches_of (open_joins h) i)
              (cond-true (on m i) (to i) (place h i) q) (branches-here o (open_joins h) i q) (lane-parted h v m l to f i q)
          | inr q ↦ chain-at (cond (on m i) (to i) (place h i)) (place h i) (branches_of (o ∷ open_joins h) i) (branches_of (open_joins h) i)
              (cond-false (on m i) (to i) (place h i) q) (branches-below o (open_joins h) i q) (v.chain i)
        ];
      }

  lane-went : (h : Story) → Inv code w h → (n m : ℕ) → FairWent code w h n m → (i : ℕ) → on m i ≡ true → Chain code (place h i) (branches_of (leave n m (open_joins h)) i)
  lane-went h v n m f i q =
      let c = f.come i q in
      let e = on-branches (partings h) n m i (open_joins h) c.join v.falls q c.top c.its_number in
      chain-went code lines g near (place h i) c.join.branch (branches_of (leave n m (open_joins h)) i) (subst (λ (bs : List ℕ). Chain code (place h i) bs) e (v.chain i)) c.there

  inv-went : (h : Story) (n m : ℕ) → Inv code w h → FairWent code w h n m → Inv code w (went n m ∷ h)
  unfolding place partings open_joins
  inv-went h n m v f =
      record {
        falls = falls-leave (partings h) n m (open_joins h) v.falls;
        sound = sound-leave code w n m (open_joins h) v.sound;
        chain = λ i. elim (cases_Bool (on m i)) [
          | inl q ↦ lane-went h v n m f i q
          | inr q ↦ subst (λ (bs : List ℕ). Chain code (place h i) bs) (sym (off-branches n m i (open_joins h) q)) (v.chain i)
        ];
      }

  no-chain : (p : ℕ) (bs : List ℕ) → bs ≡ [] → Chain code p bs
  unfolding Chain
  no-chain p bs e = subst (λ (v : List ℕ). Chain code p v) (sym e) tt

  inv-passed : (h : Story) (to : ℕ → ℕ) → Inv code w h → ((i : ℕ) → i < w → Passes code h i (to i)) → Inv code w (passed to ∷ h)
  unfolding place partings open_joins
  inv-passed h to v f =
      record {
        falls = v.falls;
        sound = v.sound;
        chain = λ i. elim (cases_lt i w) [
          | inl q ↦ lane-moved h v i (place h i) (to i) refl (f i q).free (f i q).leads
          | inr q ↦ no-chain (to i) (branches_of (open_joins h) i) (outside code w (open_joins h) i v.sound q)
        ];
      }

  inv-none : Inv code w []
  unfolding place partings open_joins Falls
  inv-none = record { falls = tt; sound = tt; chain = λ i. no-chain 0 (branches_of [] i) (none-branches i) }

  pub inv-kept : (h : Story) → Happened code w h → Inv code w h
  unfolding Happened
  inv-kept [] x = inv-none
  inv-kept (did m l to ∷ h) x = inv-did h m l to (inv-kept h x.0) x.1
  inv-kept (parted m l to ∷ h) x = inv-parted h m l to (inv-kept h x.0) x.1
  inv-kept (went n m ∷ h) x = inv-went h n m (inv-kept h x.0) x.1
  inv-kept (passed to ∷ h) x = inv-passed h to (inv-kept h x.0) x.1
