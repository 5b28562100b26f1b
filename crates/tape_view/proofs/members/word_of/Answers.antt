use Rattle.tape_view.proofs.Words.{arith, refl, words_in, has_rank, key_by, spelled_in}
use Rattle.tape_view.proofs.members.word_of.Goals as goal
use Rattle.net_view.specs.Members.{rank_in_listing}
use Rattle.tape_view.proofs.LineParts.{any_last, found_in_words, lists_words}

pub returns : goal.returns
returns g c =
    let s = c.args.support.now in
    let n = key_by s c.args.nick.now in
    let words = words_in s c.args.line.now in
    record {
      listed = grind (arith, any_last s n words, lists_words s n words);
      rank = λ rank. grind (
        arith,
        found_in_words s n (rank_in_listing n rank) (λ word. has_rank word.ranks rank)
            (λ word. refl) words,
      );
      spelled = grind (
        arith,
        found_in_words s n (spelled_in n) (λ word. word.nick) (λ word. refl) words,
      );
    }
