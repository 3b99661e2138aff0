-- A line ended the block, or all came.
use Rattle.std.proofs.Common.{◌≡◌, ◌<◌, [], true, false, take, rules, tests, refl, sym, ◌∙◌, subst, true≢false, arith}
use Rattle.std.proofs.lemmas.List.{length-take-le}
use Rattle.kq_trace.specs.Blocks.{ArePut, EndsWith}
use Rattle.kq_trace.proofs.BlockSoFar.{last_block, none_put, whole_block}
use Rattle.kq_trace.proofs.blocks.Blocks.next.Goals as goal

pub chunks-init : goal.chunks-init
chunks-init g c =
    let before = g.S.Source.ahead c.args.source.now in
    let ends : EndsWith c.args.self.now before = search rules in
    let none : c.append.new.other.items ≡ [] = search rules in
    (none_put before c.args.self.now ends c.append.new.self.items (search rules), none)

pub returns-then-branch-clause-block : goal.returns-then-branch-clause-block
returns-then-branch-clause-block g c =
    let before = g.S.Source.ahead c.args.source.now in
    let mid = g.S.Source.ahead c.chunks.source in
    let after = g.S.Source.ahead c.read_on.new.source in
    let going_on : c.chunks.self.ended ≡ false = search (rules, tests) in
    let count = c.in_ok-count.count in
    let read = c.in_ok-count.ensures.read in
    let came = take count c.read_on.new.self.chunk.bytes.items in
    let put : ArePut came c.chunks.block.items c.put.new.block.items c.put.new.waiting.items true =
    subst (λ w. ArePut came c.chunks.block.items c.put.new.block.items c.put.new.waiting.items w) c.if-branch.true
    (rw (← c.first.ensures) c.in_ok-put.ensures) in
    whole_block before mid after c.args.self.now c.chunks.self c.read_on.new.self count going_on read c.chunks.block.items c.put.new.block.items
    c.put.new.waiting.items c.chunks.invariant.0 put _ refl refl

pub returns-then-branch-clause-ends : goal.returns-then-branch-clause-ends
returns-then-branch-clause-ends g c = λ is.
    let count = c.in_ok-count.count in
    let read = c.in_ok-count.ensures.read in
    let came = take count c.read_on.new.self.chunk.bytes.items in
    let put : ArePut came c.chunks.block.items c.put.new.block.items c.put.new.waiting.items true =
    subst (λ w. ArePut came c.chunks.block.items c.put.new.block.items c.put.new.waiting.items w) c.if-branch.true
    (rw (← c.first.ensures) c.in_ok-put.ensures) in
    let some : 0 < count = omega (arith, put.some refl, length-take-le count c.read_on.new.self.chunk.bytes.items read.within) in
    absurd (true≢false (sym is ∙ read.some some))

pub returns-clause-block : goal.returns-clause-block
returns-clause-block g c =
    let ended : c.chunks.self.ended ≡ true = search (rules, tests) in
    last_block (g.S.Source.ahead c.args.source.now) (g.S.Source.ahead c.chunks.source) c.args.self.now c.chunks.self ended c.chunks.block.items
    c.chunks.invariant.0 c.chunks.invariant.1
