use Rattle.std.proofs.Common.{◌≡◌, ℕ, List, length, Option, Result, refl, ◌∙◌}
use Rattle.grammar.specs.Spelling.{Named}
use Rattle.grammar.specs.Names.{NamesIn}
use Rattle.grammar.specs.Walk.{place_in}
use Rattle.grammar.specs.WalkLine.{bare_at, within_line_spec, line_at}
use Rattle.grammar.specs.declared.lines.Lined.{Lined}
use Rattle.grammar.specs.declared.refusals.Refusal.{Refusal}
use Rattle.grammar.proofs.Linehere.{line-done}
use Rattle.grammar.proofs.Soundline.{line_made}
use Rattle.grammar.proofs.Nameds.{place-named, named-place, named-name}
use Rattle.grammar.proofs.lines.parse_line.Goals as goal

line_is : (find : List ℕ → Option ℕ) (text : List ℕ) (i : ℕ) (r : Result Lined Refusal) → r ≡ bare_at find text i → within_line_spec i r ≡ line_at find text i
unfolding line_at
line_is find text i r e = rw e refl

pub returns : goal.returns
returns c =
    let walk : (ns : List (List ℕ)) → NamesIn ns c.args.text.now → c.within_line.result ≡ line_at (place_in ns) c.args.text.now c.args.pos
    = λ ns n. c.within_line.ensures ∙ line_is (place_in ns) c.args.text.now c.args.pos _ (c.bare_line.ensures ns n) in
    record {
      walk = walk;
      stands = λ ns n. line_made (place_in ns) c.args.text.now (Named ns) (length ns) (λ k u e. let p = place-named ns u k e in (p, p.0)) c.args.pos c.within_line.result (walk ns n);
      found = λ ns l m n d h k. walk ns n ∙ line-done (place_in ns) c.args.text.now (Named ns) (length ns) (named-name ns c.args.text.now n) (named-place ns d) c.args.pos l m h k;
    }
