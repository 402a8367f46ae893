use Rattle.std.proofs.Common.{rules}
use Rattle.sign_script.specs.Asks.{ask_of, bare}
use Rattle.sign_script.specs.Fields.{Gives}
use Rattle.sign_script.proofs.AskLemmas.{gives_bad}
use Rattle.sign_script.proofs.read.read_ask.Goals as goal

pub returns-in_default-clause-bad : goal.returns-in_default-clause-bad
returns-in_default-clause-bad c =
    let asked : Gives bare c.ask_of_line.result (ask_of c.args.line.now) = search rules in
    gives_bad c.ask_of_line.result c.args.line.now asked
