use Rattle.std.proofs.Common.{◌≡◌, ◌++◌, subst}
use Rattle.hash_based.specs.Joined.{word_of, public_of}
use Rattle.console.specs.Answers.{made}
use Rattle.console.proofs.key_calls.Keys.make.Goals as goal

pub returns-clause-kept : goal.returns-clause-kept
returns-clause-kept c =
    let told = subst (λ s. c.tell.new.answer.text ≡ c.args.answer.now.text ++ made (word_of s) (public_of s)) c.deref.ensures c.in_ok-tell.ensures in
    (c.in_ok-secret.secret, c.in_ok-insert.ensures.updates, told)
