use Rattle.std.proofs.Common.{◌≡◌, ℕ, true, not, ap, ◌∙◌, List, Option, Some, None, IfSome, is_some, inr}
use Rattle.std.proofs.lemmas.Bool.{false≢true}
use Rattle.std.proofs.lemmas.Option.{IfSome_then}
use Rattle.values.specs.declared.packed.Behind.{Behind}
use Rattle.values.specs.Items.{Packed}
use Rattle.values.specs.Ready.{Ready}
use Rattle.values.proofs.ready.make_ready.Goals as goal

holds : (text : List ℕ) (at : ℕ) (ws : List ℕ) (from : ℕ) (r : Option Behind) → is_some r ≡ true → IfSome r (λ b. Packed text at ws from b) → Ready text at ws from
holds text at ws from None h p = absurd (false≢true h)
holds text at ws from (Some b) h p = inr (λ ns n di owns le e s. (b.word, p.code ns n di owns le e s))

pub returns-else-is_none-clause-ready : goal.returns-else-is_none-clause-ready
returns-else-is_none-clause-ready c = holds c.args.text.now c.args.at _ c.args.from c.compact.result (c.is_none.ensures ∙ ap not c.if-is_none.false) (IfSome_then c.compact.result c.compact.ensures.packed (λ b p. p.0))
