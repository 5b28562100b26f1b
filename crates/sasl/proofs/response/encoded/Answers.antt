use Rattle.base64.specs.{Engines.standard, GeneralPurpose.encode_of}
use Rattle.{irc_line.proofs.Outcomes.ok_more, sasl.proofs.CleanLemmas.base64_is_clean}
use Rattle.sasl.proofs.response.encoded.Goals as goal
use Rattle.std.proofs.Common.{IfOk, arith, rules, ◌≡◌}

pub returns-clause-clean : goal.returns-clause-clean
returns-clause-clean c =
    let value : IfOk c.from_slice.result (λ text. text.items ≡ encode_of standard c.args.bytes.now) =
    search rules in
    ok_more _ _ c.from_slice.result
    (λ text same. rw same
    (base64_is_clean c.args.bytes.now (λ i. let f = c.type_inv.bytes i in omega arith)))
    value
