use Rattle.std.proofs.Common.{◌≡◌, ◌≤◌, fold, length}
use Rattle.std.specs.Vec.{vec_capacity, vec_len}
use Rattle.sign_control.specs.Revision.{revised}
use Rattle.sign_control.proofs.CountLemmas.{IsDone}
use Rattle.sign_control.proofs.controller.Controller.run.Given as goal

abbrev pub invariant-loop-command : goal.invariant-loop-command
invariant-loop-command l = record {
  room : length l.commands ≤ vec_capacity l.replies;
  count : vec_len l.replies ≡ l.command-index;
  done : IsDone l.fn.self.sign l.fn.self.state l.commands l.command-index l.fn.self.steps l.self.state l.replies.items l.self.steps;
  sign : l.self.sign ≡ l.fn.self.sign;
  plane : l.self.plane ≡ l.fn.self.plane;
  revision : l.self.revision ≡ fold revised l.fn.self.revision l.replies.items;
}
