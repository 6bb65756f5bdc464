-- `put_line` meets its contract: the parts of the line, one behind the other. Assumes nothing.
use native.Mathlib.Omega.{arith}
use Rattle.text_name.specs.Names.{name_of}
use Rattle.text_view.specs.View.{row_view}
use Rattle.prog_tape.proofs.Room.{head_next, name_next, data_next, row_inside, line_written}
use Rattle.prog_tape.proofs.put_line.Goals as goal

pub put_name-requires : goal.put_name-requires
put_name-requires c =
    let i = row_inside c.args.tape.now c.args.tones.now c.args.r c.requires.r_value in
    record { size_in_bounds = (i.bytes, i.name); chars_bound = (omega (arith, i.chars), c.requires.r_len_bound); at_bound = omega (arith, c.requires.at_value, head_next _ _ _ _ _ _ c.put_head.ensures) }

pub put_data-requires : goal.put_data-requires
put_data-requires c =
    let a = c.args in
    let i = row_inside a.tape.now a.tones.now a.r c.requires.r_value in record {
      size_in_bounds = (i.bytes, omega (arith, i.few));
      at_bound = omega (
        arith,
        c.requires.at_value,
        c.requires.r_len_bound,
        head_next _ _ _ _ _ _ c.put_head.ensures,
        name_next (name_of a.tape.now a.r) c.put_name.ensures,
      );
    }

pub put_pulses-requires : goal.put_pulses-requires
put_pulses-requires c =
    let a = c.args in
    let i = row_inside a.tape.now a.tones.now a.r c.requires.r_value in record {
      width_in_bounds = i.rows;
      at_bound = (
        omega (
          arith,
          c.requires.at_value,
          c.requires.r_len_bound,
          i.few,
          head_next _ _ _ _ _ _ c.put_head.ensures,
          name_next (name_of a.tape.now a.r) c.put_name.ensures,
          data_next a.r.size a.r.start a.tape.now c.put_data.ensures,
        ),
        i.most,
      );
    }

pub returns : goal.returns
returns c =
    let a = c.args in
    line_written a.i (row_view a.tape.now a.tones.now a.r) c.put_head.ensures c.put_name.ensures
    c.put_data.ensures c.put_pulses.ensures
