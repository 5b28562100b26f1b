use Rattle.irc_names.proofs.laws.order_is_total.Goals as goal
use Rattle.{irc_names.specs.CaseMapping.key_of, std.proofs.Common.{ap, sym, ◌∙◌}}
use Rattle.std.{proofs.lemmas.Cmp.nat_list_cmp_total, specs.Cmp.{Lexicographic.slice_cmp, on_total}}
use Rattle.std.specs.{Cmp.tied_itself, FinMap.{nat_cmp-IsAntisymmetric, slice_cmp-IsAntisymmetric}}
use Rattle.std.specs.Ordering.{nat_cmp}

pub returns : goal.returns
returns c = record {
  total = λ m. on_total (key_of m) nat_list_cmp_total;
  ties =
      λ m a b. (
        slice_cmp-IsAntisymmetric nat_cmp-IsAntisymmetric (key_of m a) (key_of m b),
        λ e.
            ap (slice_cmp nat_cmp (key_of m a)) (sym e)
            ∙ tied_itself nat_list_cmp_total (key_of m a),
      );
}
