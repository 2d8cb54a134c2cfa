use Rattle.sha256.specs.Sha256.{sha256}
use Rattle.lms.proofs.Acceptance.{decides}
use Rattle.lms.proofs.checking.holds.Goals as goal

pub returns : goal.returns
returns c = record {
  is = c.verdict.ensures;
  climbs = decides sha256 c.args.key.now c.args.message.now c.args.signature.now c.verdict.result c.verdict.ensures;
}
