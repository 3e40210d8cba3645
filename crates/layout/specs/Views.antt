-- The layout of the code as a storage.
use Rattle.layout.specs.declared.slot.Layout.{Layout}
use Rattle.layout.specs.Storage.{Storage}

abbrev pub layout_view : Layout → Storage
layout_view layout = record {
  objects = layout.objects.items;
  lists = layout.lists.items;
  data_size = layout.data_size;
  constant_size = layout.constant_size;
}
