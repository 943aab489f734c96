use Rattle.std.specs.Prelude.{pos}
use Rattle.gl_sphere.specs.Components.{written_x, written_y, written_z, north_x, north_y, north_z, east_x, east_y}
use Rattle.gl_sphere.specs.Lemmas.Components.{written_x-within, written_y-within, written_z-within, north_x-within, north_y-within, north_z-within, east_x-within, east_y-within, zero-within}
use Rattle.gl_sphere.specs.declared.place.Grid.{Grid}
use Rattle.gl_sphere.specs.declared.place.Vec3.{Vec3}

-- the point of a place
unfoldable pub written_vector : Grid → Vec3
written_vector g = record {
  x = written_x g;
  y = written_y g;
  z = written_z g;
  x_in_range = written_x-within g;
  y_in_range = written_y-within g;
  z_in_range = written_z-within g;
}

-- the direction of north at a place, as long as the radius
unfoldable pub written_north : Grid → Vec3
written_north g = record {
  x = north_x g;
  y = north_y g;
  z = north_z g;
  x_in_range = north_x-within g;
  y_in_range = north_y-within g;
  z_in_range = north_z-within g;
}

-- the direction of east at a place, as long as the radius
unfoldable pub written_east : Grid → Vec3
written_east g = record {
  x = east_x g;
  y = east_y g;
  z = pos 0;
  x_in_range = east_x-within g;
  y_in_range = east_y-within g;
  z_in_range = zero-within;
}
