-- The test at each place is a factor of `values_are`: the law `values_all`.
use Rattle.std.proofs.Common.{◌+◌, ◌*◌, drop, refl, ◌∙◌, arith, rules, tests}
use Rattle.std.proofs.lemmas.Iterator.{YieldsList-from_range}
use Rattle.std.proofs.lemmas.Iterator.Search.{all_from_yields_List}
use Rattle.message.specs.Words.{link_words}
use Rattle.message.specs.Fields.{value}
use Rattle.message.proofs.Reading.{values_all}
use Rattle.message.proofs.run.are_values.Goals as goal

pub returns : goal.returns
returns c =
    let ws = link_words c.args.message.now in
    all_from_yields_List (λ k. value.is (drop (c.args.at + k * 3) ws)) _ _ c.all.result c.all.ensures.ran (YieldsList-from_range 0 c.args.count c.args.count refl (omega arith)) (λ k b q h. search (rules, tests))
    ∙ values_all c.args.count c.args.at ws
