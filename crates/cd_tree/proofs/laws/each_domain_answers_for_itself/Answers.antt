use Rattle.cd_tree.specs.Domains.{body_of, root_of}
use Rattle.cd_tree.specs.Meaning.{GroupsApart}
use Rattle.cd_tree.proofs.EachDomain.{from_each, of_each}
use Rattle.cd_tree.proofs.Covers.{CoversOwn, covers_own, is_covered}
use Rattle.cd_tree.proofs.laws.each_domain_answers_for_itself.Goals as goal

pub returns : goal.returns
returns c =
    record {
      disjoint = λ tree is. (from_each tree is (λ d. GroupsApart (body_of d)), of_each tree is (λ d. GroupsApart (body_of d)));
      covered = λ tree is. (
        λ each. is_covered (root_of tree.domains) (from_each tree is CoversOwn each),
        λ covered. of_each tree is CoversOwn (covers_own (root_of tree.domains) covered),
      );
    }
