use Rattle.std.proofs.Common.{arith}
use Rattle.kq_text.proofs.WritesLemmas.{first_of}
use Rattle.kq_text.proofs.over.write_first_at.Goals as goal

pub returns : goal.returns
returns c = first_of c.args.out.now c.write_at.new.out c.args.text.now c.args.start c.args.bytes c.write_at.result
    (omega (arith, c.requires.room)) c.requires.within c.write_at.ensures
