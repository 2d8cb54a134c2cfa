use Rattle.octets.proofs.Sought.{first_byte}
use Rattle.octets.proofs.search.first_far.Goals as goal

pub returns : goal.returns
returns c = first_byte c.args.c c.args.text.now c.memchr.result c.memchr.ensures
