use mathlib.Core.Path.{refl, sym, ◌∙◌}
use Rattle.shingle.proofs.Listing.{listing_start, listing_next, written_zero, written_full}
use Rattle.shingle.proofs.pairs.write_pairs.Goals as goal

pub loop-i-init : goal.loop-i-init
loop-i-init c = listing_start _ _ c.requires

pub returns-then-id-eq0 : goal.returns-then-id-eq0
returns-then-id-eq0 c = written_zero _ _ _ _ _ c.loop-i.invariant (sym c.node_id-id.ensures ∙ c.if-id-eq0.true)

pub loop-i-preserved : goal.loop-i-preserved
loop-i-preserved c =
    listing_next _ _ _ _ _ _ _ c.loop-i.invariant _ _ _ c.loop-i-test.true c.node_id-id.ensures c.if-id-eq0.false c.node_level-level.ensures
    refl c.put.ensures c.follow-last.ensures

pub returns : goal.returns
returns c = written_full _ _ _ _ _ c.loop-i.invariant c.loop-i-test.false
