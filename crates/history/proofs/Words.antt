-- The words that most proofs speak with, passed on.
pub use Rattle.{circular_buffer.specs.Buffer.keep_last, history.specs.Entry.EntryParts}
pub use Rattle.history.specs.{Entry.entry_parts, Messages.target_key, Retained.after_one_more}
pub use Rattle.history.specs.Retained.{is_to, looking_back, retained, since, stays, targets}
pub use Rattle.history.specs.Rings.{all_taken, noted, numbers_to, oldest_gone, ring_gone, rings_of}
pub use Rattle.{history.specs.Rings.taken, std.proofs.Common.{Bool, IfSome, List, None, Option}}
pub use Rattle.std.proofs.Common.{Some, Vec, [], ap, append-nil, arith, bytes_eq, cond, false}
pub use Rattle.std.proofs.Common.{filter, length, length-append, map, nat_cmp, nat_lt, not, refl}
pub use Rattle.std.proofs.Common.{reverse, slice_get, suc, sym, take, true, unwrap_or, zero, ℕ}
pub use Rattle.std.proofs.Common.{◌&&◌, ◌++◌, ◌+◌, ◌-◌, ◌<◌, ◌^◌, ◌∙◌, ◌∷◌, ◌≡◌, ◌≤◌}
pub use Rattle.std.proofs.{SliceLists.all_by_recursion_push, lemmas.Bool.Decides.nat_tests}
pub use Rattle.std.proofs.lemmas.List.{Elements.filter-append, Filters.length-filter_both}
pub use Rattle.std.proofs.lemmas.List.{Folds.list_any-append, length-map, take-append-le, take-map}
pub use Rattle.std.proofs.lemmas.{List.take_all, Option.slice_get-map}
pub use Rattle.std.specs.{BTreeMap.insert_entry, List.AllByRecursion, Map.{keys_of, lookup}}
pub use Rattle.std.specs.{Map.{remove_entry, set_value}, Option.{option_map, option_map_or}}
pub use Rattle.std.specs.declared.cmp.Ordering.TheVariants.{Less}
