use Rattle.std.proofs.Common.{sym, ◌∙◌, ap}
use Rattle.std.specs.List.{between}
use Rattle.grammar.specs.declared.keywords.Keyword.TheVariants as kw
use Rattle.grammar.specs.Runs.{written}
use Rattle.values.proofs.Words.{lane-leaf, group-leaf, lanes-leaf, same-word, other-leaf}
use Rattle.values.proofs.leaves.leaf_of.Goals as goal

pub returns-in-Lane : goal.returns-in-Lane
returns-in-Lane c = lane-leaf c.args.text.now (between c.args.at c.args.end c.args.text.now) (c.in-Some.ensures ∙ ap written c.in-Lane.is)

pub returns-in-Group : goal.returns-in-Group
returns-in-Group c = group-leaf c.args.text.now (between c.args.at c.args.end c.args.text.now) (c.in-Some.ensures ∙ ap written c.in-Group.is)

pub returns-in-Lanes : goal.returns-in-Lanes
returns-in-Lanes c = lanes-leaf c.args.text.now (between c.args.at c.args.end c.args.text.now) (c.in-Some.ensures ∙ ap written c.in-Lanes.is)

pub returns-in_default-word : goal.returns-in_default-word
returns-in_default-word c =
    let word = c.in-Some.ensures in
    other-leaf c.args.text.now (between c.args.at c.args.end c.args.text.now) c.number_or_name-in_default-word.result
    (λ q. c.in_default-word.not-Lane (same-word c.in-Some.word kw.Lane (sym word ∙ q)))
    (λ q. c.in_default-word.not-Group (same-word c.in-Some.word kw.Group (sym word ∙ q)))
    (λ q. c.in_default-word.not-Lanes (same-word c.in-Some.word kw.Lanes (sym word ∙ q)))
    c.number_or_name-in_default-word.ensures

pub returns-in_default : goal.returns-in_default
returns-in_default c =
    other-leaf c.args.text.now (between c.args.at c.args.end c.args.text.now) c.number_or_name.result (c.in_default.ensures kw.Lane) (c.in_default.ensures kw.Group) (c.in_default.ensures kw.Lanes)
    c.number_or_name.ensures
