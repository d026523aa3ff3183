-- One behind the other.
use Prim.Native.Nat.{ℕ}
use mathlib.Core.List.{List}
use Rattle.streams.specs.Streams.{group_lines}
use Rattle.row_groups.specs.Groups.{reply_rows, kept}
use Rattle.row_groups.proofs.Laws.{three-put}
use Rattle.row_groups.proofs.Document.put_groups.Goals as goal

pub returns : goal.returns
returns c =
    let d = c.args.self.now in
    let f : ℕ → List (List ℕ) =
    λ g. group_lines d.model d.names g (kept d.model c.args.c g (reply_rows d.reply)) in
    three-put f c.put_group.ensures c.put_group-2.ensures c.put_group-3.ensures
