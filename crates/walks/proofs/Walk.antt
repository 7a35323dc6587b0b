-- What a walk of a function over a slice uses, of the logic and of this folder, passed on: a proof brings it in by one line.
pub use mathlib.Core.Path.{refl, sym, ◌≡◌, ◌∙◌, ap}
pub use Prim.Native.Nat.{ℕ, ◌<◌, ◌^◌, ◌*◌, ◌+◌, ◌-◌, ◌≤◌}
pub use native.Mathlib.Omega.{arith}
pub use mathlib.Core.List.{[], ◌∷◌, List}
pub use lib.ListN.{length, set, length-set}
pub use seplogic.Ra.Ura.{Ura}
pub use base.Fraction.{full_share}
pub use mir.Syntax.{w64, ty_ptr}
pub use mir.Val.{vbool, vint, vfloat, vptr, vunit}
pub use base.Fml.{fat}
pub use prog.Wp.{Heap, WpFn, Tables, Env}
pub use ghost.Atoms.{Atoms}
pub use contract.Running.{tables, tables_of}
pub use types.Kit.{‵, ◌$◌, ◌∵◌, !, qed, rewrite, by, move, drop, Item, raw, given, use1, learn}
pub use types.Run.{addr, look, look_raw, init, stop, hop, fld, from, load, lit, of_opd, bin, assigns, params1, pass1, pass0, store_raw, unit_lit, forget, and_then, no_more}
pub use types.Part.{whole, sub, agg, look_in}
pub use denote.Laws.{Is, shows}
pub use denote.Slice.{slice_val}
pub use denote.Index.{row, place_is, elem_out, elem_back, elem_put}
pub use Rattle.walks.proofs.Locals.{locals, leaves, leaves-within, ifs, breaks, full, var, vars2, vars3, relends, sets, resets, lands-in, lands-on, Spots, env, die, Full, Room, tests, resets-last, whiles, empty}
pub use denote.Steps.{owned}
pub use Rattle.walks.proofs.Rows.{task}
pub use sound.WpLaws.{fm_of}
pub use Rattle.walks.proofs.Elements.{calls-read, calls-write}
pub use lib.Dec.{ltb→lt, nltb→le, leb→le, nleb→lt, lit<}
pub use base.Logic.{guard_i}
pub use Rattle.walks.proofs.Arrays.{array_row, row_room}
pub use Rattle.walks.proofs.Known.{KnownRow, known, knowing}
pub use Rattle.walks.proofs.Calls.{calls-task, calls-change, calls-told, calls-value}
