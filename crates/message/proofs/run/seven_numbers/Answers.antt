-- The test at each place is a factor of `numbers_are`.
use Rattle.std.proofs.Common.{drop, refl, rules, tests}
use Rattle.std.proofs.lemmas.Iterator.{YieldsList-from_range}
use Rattle.std.proofs.lemmas.Iterator.Search.{all_from_yields_List}
use Rattle.message.specs.Words.{link_words}
use Rattle.message.specs.Fields.{number}
use Rattle.message.specs.Reading.{numbers_are}
use Rattle.message.proofs.run.seven_numbers.Goals as goal

pub returns : goal.returns
unfolding numbers_are
returns c = all_from_yields_List (λ k. number.is (drop k (link_words c.args.message.now))) _ _ _ c.all.ensures.ran (YieldsList-from_range 1 8 7 refl refl) (λ k b q h. search (rules, tests))
