-- Names that several proofs of this crate use.
pub use Rattle.std.proofs.Common.{Bool, Bor, Err, IsTrue, List, MatchOption, None, Ok, Option, Result, Some, [], ap}
pub use Rattle.std.proofs.Common.{ap₂, arith, codes, drop, false, get_or, inl, inr, is_some, length, nat_eq, refl}
pub use Rattle.std.proofs.Common.{slice_index, subst, sym, take, true, true≢false, ℕ, ◌++◌, ◌<◌, ◌^◌, ◌||◌, ◌∙◌, ◌∷◌}
pub use Rattle.std.proofs.Common.{◌≡◌, ◌≢◌, ◌≤◌, ◌⊎◌}
pub use Rattle.std.proofs.lemmas.Bool.{eqb-true, le-leb, leb-true, ne_eqb}
pub use Rattle.std.proofs.lemmas.List.{drop-map, length-map, take-append-drop, take-map}
pub use Rattle.std.proofs.lemmas.Result.{IfErr-weaker, IfOk-weaker}
pub use Rattle.std.specs.Option.{option_map, unwrap_or}
pub use Rattle.std.specs.Prelude.{FitsSigned, String, pos, string_bytes, ◌≤ℤ◌}
pub use Rattle.std.specs.Str.Parse.{AllDigits, ExplainsUnsignedError, HasUnsignedDigitsIfOk, IsNumeral, ParsesUnsigned}
pub use Rattle.std.specs.Str.Parse.{digits_value, signed_digits_value, without_leading_sign}
pub use Rattle.clap.proofs.WalkLemmas.{first_value-rows, one_text-rows}
pub use Rattle.clap.specs.Lexer.{long_of, short_of, without_minus}
pub use Rattle.clap.specs.Simple.{subcommand_of}
pub use Rattle.clap.specs.Takes.{takes}
pub use Rattle.clap.specs.ValueTests.{accepts}
pub use Rattle.clap.specs.Values.{read_as, reading_of}
pub use Rattle.clap.specs.Walk.{Row, Text, one_of, with_values}
pub use Rattle.clap.specs.Words.{App, ReadsOne, app_of, found_of, is_simple, rows_of, subcommand_name_of}
pub use Rattle.clap.specs.Words.{subcommand_rows_of, with_rule, with_subcommand}
pub use Rattle.clap.specs.declared.builder.ValueParser.{ValueParser}
pub use Rattle.clap.specs.declared.parser.ArgMatches.{ArgMatches}
pub use Rattle.command_words.specs.Found.{FindsNumber, FindsOptions}
pub use Rattle.command_words.specs.Judging.{AreSeedAndLedgers}
pub use Rattle.command_words.specs.Parser.{any_u32, program_app}
pub use Rattle.command_words.specs.Words.{AreOptionsOf, AreRunOptions, AreSampleOptions, CatchUp, Changes, Command}
pub use Rattle.command_words.specs.Words.{History, Init, IsNumberOption, IsOption, IsUnhyphened, Parses, Path, Run}
pub use Rattle.command_words.specs.Words.{Sample, Show, Verify, name_of, option_word, words_of}
