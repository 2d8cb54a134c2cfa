use Rattle.sha256.proofs.digest.Goals as goal

pub returns : goal.returns
returns c = c.finish.ensures c.args.message.now (c.update.ensures _ c.new-hasher.ensures)
