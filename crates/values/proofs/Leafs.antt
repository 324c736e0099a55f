-- A word's value for each lane.
use Rattle.std.proofs.Common.{◌≡◌, ℕ, ◌+◌, ◌*◌, ◌<◌, List, length, get_or, replicate, sym, ap, ◌∙◌, subst, arith}
use Rattle.std.proofs.lemmas.List.{get_or-replicate, length-replicate}
use Rattle.lanes.specs.Step.{value}
use Rattle.values.specs.declared.leaves.Leaf.{Leaf}
use Rattle.values.specs.declared.leaves.Leaf.TheVariants.{Fixed, Own, Lane, Group, Lanes}
use Rattle.values.specs.declared.row.Row.{Row}
use Rattle.values.specs.Worth.{LeafIs}
use Rattle.values.specs.Rows.{Values, LeafWorth}

module _ (leaf : Leaf) (r : Row) (out : List ℕ) where
  pub worth-fixed : (a : ℕ) → leaf ≡ Fixed a → ((i : ℕ) → i < length out → get_or out i 0 ≡ a) → LeafWorth leaf r out
  unfolding Values value
  worth-fixed a q h e is =
      let known = subst (λ (x : Leaf). LeafIs r.owns x e) q is in
      λ i hi v o. h i hi ∙ known.2 ∙ ap (value v (r.first + i) r.group r.lanes) (sym known.1)

  pub worth-own : (k : ℕ) → leaf ≡ Own k → ((i : ℕ) → i < length out → get_or out i 0 ≡ get_or r.own.now (r.base + k * r.stride + i) 0) → LeafWorth leaf r out
  unfolding Values value
  worth-own k q h e is =
      let known = subst (λ (x : Leaf). LeafIs r.owns x e) q is in
      λ i hi v o. h i hi ∙ sym (o k known.1) ∙ ap (value v (r.first + i) r.group r.lanes) (sym known.0)

  pub worth-lane : leaf ≡ Lane → ((i : ℕ) → i < length out → get_or out i 0 ≡ r.first + i) → LeafWorth leaf r out
  unfolding Values value
  worth-lane q h e is =
      let known = subst (λ (x : Leaf). LeafIs r.owns x e) q is in
      λ i hi v o. h i hi ∙ ap (value v (r.first + i) r.group r.lanes) (sym known)

  pub worth-group : leaf ≡ Group → ((i : ℕ) → i < length out → get_or out i 0 ≡ r.group) → LeafWorth leaf r out
  unfolding Values value
  worth-group q h e is =
      let known = subst (λ (x : Leaf). LeafIs r.owns x e) q is in
      λ i hi v o. h i hi ∙ ap (value v (r.first + i) r.group r.lanes) (sym known)

  pub worth-lanes : leaf ≡ Lanes → ((i : ℕ) → i < length out → get_or out i 0 ≡ r.lanes) → LeafWorth leaf r out
  unfolding Values value
  worth-lanes q h e is =
      let known = subst (λ (x : Leaf). LeafIs r.owns x e) q is in
      λ i hi v o. h i hi ∙ ap (value v (r.first + i) r.group r.lanes) (sym known)
