-- What is true of the object module of each module that tree code is.
use Rattle.generation.proofs.Prelude.{IsObjectModule, ObjectModule, TreeModule, IsGenerated, stored, has_names, is_object_of, has_segments, DoesWhereItLies, IsSoundlyMade, generated_does, OfItsModule}
use Rattle.image_laws.specs.{Objects.{IsObjectOf}, Segments.{HasSegments}, Names.{HasNames}}

module _
    (tree : TreeModule) (object : ObjectModule)
    (generated : IsGenerated tree object)
    (valid : IsObjectModule object)
  where
    -- it is soundly made
    pub soundly_made : OfItsModule tree IsSoundlyMade object
    unfolding OfItsModule
    soundly_made typed code = record {
      made = record {
        storage = code.storage;
        tree = tree;
        laid = record {
          storable = code.sound.storable;
          globals = code.sound.globals;
          stored = stored typed code.storage code.laid_out;
        };
        lowered = code.lowered;
        generated = generated;
        valid = valid;
      };
      facts = code.sound;
      words = record { numbers = tree.numbers_are_words; homes = tree.homes_are_words };
    }

    -- and so it does what the module says, and has its segments and its names
    pub code_does : OfItsModule tree DoesWhereItLies object
    unfolding OfItsModule
    code_does typed code = generated_does typed object (soundly_made typed code)

    pub object_is : OfItsModule tree IsObjectOf object
    unfolding OfItsModule
    object_is typed code =
        let is = (soundly_made typed code).made in
        is_object_of typed is.storage is.tree object is.laid is.lowered is.valid is.generated

    pub segments_are : OfItsModule tree HasSegments object
    unfolding OfItsModule
    segments_are typed code =
        let is = (soundly_made typed code).made in
        has_segments typed is.storage is.tree object is.laid is.lowered is.valid is.generated

    pub names_are : OfItsModule tree HasNames object
    unfolding OfItsModule
    names_are typed code =
        let is = (soundly_made typed code).made in
        has_names typed is.storage is.tree object is.laid is.lowered is.generated
