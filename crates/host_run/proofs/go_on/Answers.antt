-- `go_on` meets its contract. Assumes nothing.
use Rattle.host_run.proofs.Runs.{gone_on}
use Rattle.host_run.proofs.Insides.{put-length}
use Rattle.play_entries.specs.Mounted.{mounted_tape}
use native.Mathlib.Omega.{arith}
use Prim.Native.Nat.{◌+◌}
use lib.ListN.{length}
use Rattle.play_walk.specs.declared.Position.{Position}
use Rattle.play_deck.specs.Assay.{Assayed}
use mathlib.Core.Path.{refl, sym, ap, subst, ◌∙◌}
use Rattle.host_run.proofs.go_on.Goals as goal

pub overflow_add-result : goal.overflow_add-result
overflow_add-result c =
    omega (arith, c.requires.holds_rows.1)

pub returns : goal.returns
returns c =
    let a = c.args in
    let w = mounted_tape a.m.now in
    record {
      known_2 = subst (λ (q : Position). Assayed w q c.assay_after.result) (sym c.position_in.ensures) c.assay_after.ensures;
      next_value = refl;
      result_after = gone_on a.measured w a.counts.now a.answers.now a.g c.requires.holds_rows.1 _ refl
          c.call_by-r.result c.call_by-r.ensures.value c.row_of.result c.row_of.ensures _ c.put_row.ensures
          (record { position = c.position_in.result; finding = c.assay_after.result; next = a.g.next + 1 })
          c.position_in.ensures refl;
      answers_len_unchanged = ap length c.put_row.ensures ∙ put-length a.answers.now a.g.next c.row_of.result (omega (arith, c.requires.holds_rows.0, c.requires.holds_rows.1));
    }
