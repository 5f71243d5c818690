use Rattle.std.proofs.Common.{◌≡◌, ◌+◌, ◌-◌, map, refl, sym, ◌∙◌, arith}
use Rattle.std.proofs.lemmas.List.{length-map}
use Rattle.spread.specs.Spreading.{spread_of}
use Rattle.partition.specs.Cuts.{window_at}
use Rattle.partition.proofs.Digits.{digit_at}
use Rattle.partition.proofs.Reading.{read_one, read_none}
use Rattle.partition.proofs.block.Block.number.Goals as goal

pub loop-j-init : goal.loop-j-init
unfolding window_at
loop-j-init c =
    let a = c.args in
    let wide : a.at + a.self.now.width - a.at ≡ a.self.now.width = omega arith in
    record { small = omega arith; rest = rw wide refl }

pub loop-j-preserved : goal.loop-j-preserved
loop-j-preserved c =
    let s = c.loop-j in
    let block = c.args.self.now in
    let digits = map spread_of block.bytes.now in
    let e = digit_at block.bytes.now s.j (omega arith) in
    record {
      small = omega arith;
      rest =
          rw (c.digit.ensures.value, ← e) (sym (read_one s.x digits s.j (c.args.at + block.width) (omega arith) (simp length-map (omega arith))) ∙ s.invariant.rest);
    }

pub returns : goal.returns
returns c =
    let s = c.loop-j in
    let block = c.args.self.now in
    sym (read_none s.x (map spread_of block.bytes.now) s.j (c.args.at + block.width) (omega arith) (omega arith)) ∙ s.invariant.rest
