-- The test at each place is a factor of `shallow`: the law `shallow_each`.
use Rattle.std.proofs.Common.{◌∙◌, leb, take, rules, tests}
use Rattle.std.proofs.lemmas.Iterator.{YieldsList-from_slice}
use Rattle.std.proofs.lemmas.Iterator.Search.{all_from_yields_List}
use Rattle.copying.specs.declared.Waiting.{Waiting}
use Rattle.state.proofs.Nine.{shallow_each}
use Rattle.state.proofs.question.all_shallow.Goals as goal

pub returns : goal.returns
returns c =
    all_from_yields_List (λ (w : Waiting). leb w.level c.args.levels) _ _ c.all.result c.all.ensures.ran
    (YieldsList-from_slice (take c.args.waiting c.args.pile) (search rules)) (λ x b q k. search (rules, tests))
    ∙ shallow_each c.args.levels c.args.waiting c.args.pile (search rules)
