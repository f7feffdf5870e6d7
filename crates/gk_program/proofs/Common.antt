-- The names from elsewhere that the proofs of this crate cite, passed on from one place. Declares nothing.
pub use Rattle.std.proofs.Common.{Err, List, None, Ok, Option, Result, Some, [], add-one, ap, append_assoc, ap₂, arith, drop, get_or, inl, inr, length, map, refl, rules, subst, suc, sym, take, true, zero, ℕ, ◌++◌, ◌+◌, ◌-◌, ◌<◌, ◌^◌, ◌∙◌, ◌∷◌, ◌≡◌, ◌≤◌, ◌⊎◌}
pub use Rattle.std.proofs.Math.Seq.{drop-cons, take-suc}
pub use Rattle.std.proofs.lemmas.Grind.{common_steps}
pub use Rattle.std.proofs.lemmas.List.{append-nil, drop_all, map-append, map_push, take-append-drop, take_all}
pub use Rattle.std.proofs.lemmas.List.Elements.{All-nil, All-push}
pub use Rattle.std.proofs.lemmas.Option.{slice_get-map, slice_get_read}
pub use Rattle.std.specs.Io.KnownBytes.{Appends, Keeps}
pub use Rattle.std.specs.List.{All, Any}
pub use Rattle.std.specs.Prelude.{◌≢◌, IfErr, IfOk, IfSome, IsErrAnd, IsSomeAnd, OnOk, String, fold, option_map, slice_get, string_bytes}
pub use Rattle.std.specs.Vec.Iter.{into_iter_items, into_iter_len}
pub use Rattle.std.specs.declared.alloc.Global.{Global}
pub use Rattle.clap.specs.Words.{IsAmong, Text, kind_of}
pub use Rattle.clap.specs.declared.error.Error.{Error}
pub use Rattle.gk_cli.specs.Arguments.{PairValue, SaysArguments, faults_in, pair_value}
pub use Rattle.gk_cli.specs.Modes.{IsWrittenAs, SaysFaultAs}
pub use Rattle.gk_cli.specs.Writing.{Device, IsUntouched, UsesWriter, device_of}
pub use Rattle.gk_cli.specs.declared.arguments.Mode.{Mode}
pub use Rattle.gk_cli.specs.declared.arguments.Mode.TheVariants.{Explanation, Findings, Report}
pub use Rattle.gk_cli.specs.declared.arguments.Words.{Words}
pub use Rattle.gk_cli.specs.declared.arguments.WordsFault.{WordsFault}
pub use Rattle.gk_gherkin.specs.Feature.{texts}
pub use Rattle.gk_io.specs.Counted.{one_more}
pub use Rattle.gk_request.specs.FaultLine.{name_at_fault}
pub use Rattle.gk_request.specs.Request.{FilesValue, Request, request_of_files, files_value}
pub use Rattle.gk_request.specs.Source.{SourceValue, source_value}
pub use Rattle.gk_request.specs.declared.request.SuiteFiles.{SuiteFiles}
pub use Rattle.gk_request.specs.declared.run_fault.RunFault.{RunFault}
pub use Rattle.gk_request.specs.declared.source.Source.{Source}
pub use Rattle.gk_io.specs.declared.whole_read.SourceFault.{SourceFault}
pub use Rattle.gk_world.specs.Refusals.{IsFault, put_refusal}
pub use Rattle.gk_world.specs.Sandbox.{SandboxValue, new_sandbox, with_env, with_file}
pub use Rattle.gk_world.specs.State.{Contents}
pub use Rattle.gk_world.specs.declared.refusals.WorldFault.{WorldFault}
pub use Rattle.gk_program.specs.Asked.{SaysAsked, SaysError, SaysGiven, files_to_put, given_value, names_given}
pub use Rattle.gk_program.specs.Ended.{blocks}
pub use Rattle.gk_program.specs.Files.{AreRead, IsNotRead, Reading, StopsReading, files_in_order, name_of, names_in_order, one_of}
pub use Rattle.gk_program.specs.Fault.{alone}
pub use Rattle.gk_program.specs.Program.{AreGiven, IsOutput, IsPrepared, IsResultOf, IsRun, IsShown, IsTextFault, SaysDone, SaysFlush, SaysRun, StopsBefore, variables_given}
pub use Rattle.gk_program.specs.WorldFiles.{ArePut, AreTaken, IsFaultOfVariable, IsNotPut, IsPut, IsText, PutFile, StopsAtVariable, StopsPutting, given_of, read_of, with_files, with_variables}
pub use Rattle.gk_program.specs.declared.asked.ArgumentsFault.{ArgumentsFault}
pub use Rattle.gk_program.specs.declared.asked.Asked.{Asked}
pub use Rattle.gk_program.specs.declared.asked.Asked.TheVariants.{Help, Nothing, Run}
pub use Rattle.gk_program.specs.declared.fault.Fault.{Fault}
pub use Rattle.gk_program.specs.declared.fault.Faults.{Faults}
pub use Rattle.gk_program.specs.declared.fault.Fault.TheVariants.{Env, File, NotUtf8, OfFile, OfRun, Usage}
pub use Rattle.gk_program.specs.declared.fault.FileFault.TheVariants.{TooLong}
