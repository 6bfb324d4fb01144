-- What accounts record of the sequence numbers that are set in a close (CAP-0021;
-- maybeUpdateAccountOnLedgerSeqUpdate in stellar-core).
use Rattle.std.specs.Prelude.{◌+◌, nat_lt, if◌then◌else◌, Option, Some, None}
use Rattle.ledger_types.specs.declared.account.AccountEntryExtensionV3.{AccountEntryExtensionV3}
use Rattle.sponsor_rules.specs.declared.context.Ctx.{Ctx}

-- The extension V3 of an account whose sequence number is set in this close: from protocol 19 on, the number of the
-- ledger that closes, one above the header's, and its close time.
abbrev pub new_extension_v3 : Ctx → Option AccountEntryExtensionV3
new_extension_v3 ctx =
    if nat_lt ctx.version 19 then None else Some (record { seq_ledger = ctx.seq + 1; seq_time = ctx.close_time })
